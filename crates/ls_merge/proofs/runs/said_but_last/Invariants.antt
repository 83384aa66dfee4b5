use Rattle.std.proofs.Common.{◌≡◌, ◌≤◌, ◌<◌, length, drop}
use Rattle.ls_merge.specs.Runs.{said_but_last}
use Rattle.ls_merge.proofs.runs.said_but_last.Given as goal

abbrev pub decreases-loop-at : goal.decreases-loop-at
decreases-loop-at l = l.at

abbrev pub invariant-loop-at : goal.invariant-loop-at
invariant-loop-at l = record {
  after : l.from ≤ l.at;
  within : l.at < length l.events.items;
  said : l.said.items ≡ said_but_last l.fields (drop l.at l.events.items);
  fields : length l.said.items ≡ l.fields;
}
