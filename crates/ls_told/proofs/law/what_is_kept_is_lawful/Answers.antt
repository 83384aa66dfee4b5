use Rattle.ls_lawful.proofs.OneSession.{alone_lawful}
use Rattle.ls_told.specs.Seen.{items_seen}
use Rattle.ls_told.proofs.law.what_is_kept_is_lawful.Goals as goal

pub returns : goal.returns
returns c = λ config number lines ws s k. record {
  told = k.told;
  lawful = alone_lawful (items_seen config ws) s k.none k.alone;
  watched = k.watched;
  ends = k.ends;
  counts = k.counts;
  subs = k.subs;
  numbered = k.numbered;
  slots = k.slots;
}
