use Rattle.std.proofs.Common.{◌≡◌, ◌∙◌, ℕ, List, IfOk, Bor, map, ap, subst}
use Rattle.ls_words.specs.Words.{pieces_behind}
use Rattle.ls_step.specs.Grammar.{add_line}
use Rattle.ls_script.proofs.script.Script.add_behind.Goals as goal

pub returns : goal.returns
returns c =
    let same : map (λ (w : Bor (List ℕ)). w.now) c.deref.result.now ≡ pieces_behind 32 c.args.rest =
    ap (λ (ws : List (Bor (List ℕ))). map (λ (w : Bor (List ℕ)). w.now) ws) c.deref.ensures.value ∙ c.in_ok-words.ensures in
    let t = c.args.texts.now in
    subst (λ (ws : List (List ℕ)). IfOk c.add_line.result
    (λ step. step ≡ add_line c.args.self.now c.args.connection.now t.sub.now t.items.now t.fields.now t.mode.now ws))
    same c.add_line.ensures
