use Rattle.ls_feed.proofs.Passing.{fits_item}
use Rattle.ls_feed.proofs.offer.read_offer.Goals as goal

pub returns-in-Ok-clause-fits : goal.returns-in-Ok-clause-fits
returns-in-Ok-clause-fits c =
    fits_item c.args.items.now c.in-Some-find.item c.in-Some-number_in.seq c.in-Ok.event c.in-Some.text.now c.fields_of.result.now
    c.in-Some-find.ensures.within c.fields_of.ensures c.in-Ok.ensures
