use Rattle.std.proofs.Common.{length, refl, subst, ℕ, Option, None, ◌∙◌, ap}
use Rattle.ls_budget.specs.Kept.{StandsFrequency}
use Rattle.std.proofs.lemmas.Option.{slice_get_read}
use Rattle.ls_record.specs.Acting.{places_among}
use Rattle.ls_subs.proofs.Asks.{followed_is}
use Rattle.ls_subs.proofs.adding.plan_item.Goals as goal

pub returns : goal.returns
returns c =
    let found = slice_get_read c.args.defs.now (length c.args.defs.now) c.args.n c.index-defs-n.result refl c.requires.declared c.index-defs-n.is in
    record {
      item = refl;
      mode = refl;
      size = c.buffer_size.ensures;
      snapshot = c.snapshot_asked.ensures;
      frequency = subst (λ (f : Option ℕ). StandsFrequency c.new.result f None) c.frequency_in.ensures c.new.ensures.stands;
      followed = c.new-2.ensures ∙ followed_is c.args.defs.now c.args.add.now c.args.n c.args.rank c.index-defs-n.result c.in_ok-places.places
          c.keys_shown-keys.result found (c.in_ok-places.ensures
          ∙ ap (λ xs. places_among c.index-defs-n.result.fields xs) c.as_slice.ensures) c.keys_shown-keys.ensures;
    }
