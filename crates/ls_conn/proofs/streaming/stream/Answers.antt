use Rattle.std.proofs.Common.{inl}
use Rattle.ls_conn.specs.declared.report.StreamEnd.TheVariants as end
use Rattle.ls_conn.proofs.GoingOn.{begun, over}
use Rattle.ls_conn.proofs.streaming.stream.Goals as goal

pub returns-in_default-clause-streamed : goal.returns-in_default-clause-streamed
returns-in_default-clause-streamed g c = over end.NoMemory _ _ _ _ _ (begun _ _ _) (inl tt)
