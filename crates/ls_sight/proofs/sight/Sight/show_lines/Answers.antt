use Rattle.std.proofs.Common.{◌≡◌, List, sym, ap, ◌∙◌, subst}
use mathlib.Core.List.{IsPrefix}
use Rattle.ls_register.specs.Watches.{Watched}
use Rattle.ls_register.specs.declared.told.Told.{Told}
use Rattle.ls_told.specs.Heard.{keepalive_of}
use Rattle.ls_told.specs.Keeping.{KeepsTold}
use Rattle.ls_sight.proofs.Agreeing.{sight_to}
use Rattle.ls_sight.proofs.sight.Sight.show_lines.Goals as goal

pub invariant_of-self : goal.invariant_of-self
invariant_of-self g c =
    let t = c.self.inside in
    let config = g.N.House.deed.config in
    let number = c.args.self.now.number in
    let all = c.args.history.now in
    let s = c.requires.told.0 in
    let first = c.show.ensures in
    let second = c.show-2.ensures in
    let later : c.show.new.reader ≡ all = first.reader in
    let lines : c.show-2.new.reader ≡ all = second.reader ∙ first.same in
    let table : t.lines.table ≡ all.table = ap (λ v. v.table) c.self.view_is ∙ c.requires.of in
    let told : KeepsTold config number all.list t.watches.items s =
    subst (λ (ws : List Watched). KeepsTold config number all.list ws s) (sym (ap (λ v. v.watches) c.self.view_is)) c.requires.told.1 in (
      ap (λ h. h.table) later ∙ sym (ap (λ h. h.table) lines),
      c.self.invariant.1,
      sight_to config t.place _ number all.list t.watches.items s c.show-2.new.reader.table c.show-2.new.reader.list
          c.show.new.reader.list c.self.invariant.2 (ap (λ v. v.number) c.self.view_is)
          (subst (λ (h : List Told). IsPrefix t.lines.list h) (ap (λ h. h.list) first.same) second.beginning) c.requires.few told
          (ap (λ h. h.table) lines ∙ sym table) (ap (λ h. h.list) lines) (ap (λ h. h.list) later),
      c.keepalive-self-inside.ensures ∙ sym (ap (λ h. keepalive_of h.list) lines),
    )
