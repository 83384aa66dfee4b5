use Rattle.std.proofs.Common.{ℕ, ap, ◌∙◌, sym, subst, List}
use Rattle.ls_register.specs.declared.made.Made.{Made}
use Rattle.ls_register.specs.declared.made.Made.TheVariants.{Freed, Gone}
use Rattle.ls_register.specs.Sessions.{Gains}
use Rattle.ls_shared.proofs.Grown.{grows_on, lined}
use Rattle.ls_shared.proofs.Changing.{registered, finds_alive, destroys_as}
use Rattle.ls_shared.proofs.shared.Shared.destroy.Goals as goal

pub returns-then-is_alive-clause-grows : goal.returns-then-is_alive-clause-grows
returns-then-is_alive-clause-grows g c =
    grows_on c.args.sight.now c.gone.new.sight c.show_lines.new.sight
    (registered c.args.sight.now c.gone.new.sight c.gone.new.sight.register (c.requires.shows.later ∙ sym c.requires.shows.lines) c.gone.ensures.rest
    c.gone.ensures.begins)
    (lined c.gone.new.sight c.show_lines.new.sight c.end-subs.new.self.lines c.show_lines.ensures.sight c.show_lines.ensures.lines
    c.show_lines.ensures.later)

pub returns-then-is_alive-clause-done : goal.returns-then-is_alive-clause-done
returns-then-is_alive-clause-done g c =
    let config = g.N.House.deed.config in
    let live = c.args.live.now in
    let shown = c.show_lines.ensures.sight in
    let lives = sym c.is_alive.ensures ∙ c.if-is_alive.true in
    let all = c.end-subs.ensures.alive lives in
    let watches = ap (λ t. t.watches) shown ∙ (ap (λ t. t.watches) c.gone.ensures.rest ∙ c.requires.shows.watches) in
    let register = sym (ap (λ t. t.register) shown) in
    record {
      finds = finds_alive config live all.earlier all.was lives;
      watches = watches;
      done =
          destroys_as config live c.show_lines.new.sight _ c.end-subs.result.slots c.end-subs.result.subs.items c.end-subs.new.self.lines c.args.sight.now.register watches
          (ap (λ t. t.lines) shown) all
          (subst (λ (l : List Made). Gains (Freed c.end-subs.result.slots) c.args.sight.now.register l) register c.gone.ensures.freed)
          (subst (λ (n : ℕ). Gains (Gone n) c.args.sight.now.register c.show_lines.new.sight.register) c.requires.shows.number
          (subst (λ (l : List Made). Gains (Gone c.args.sight.now.number) c.args.sight.now.register l) register c.gone.ensures.gone));
    }
