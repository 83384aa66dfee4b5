use Rattle.std.proofs.Common.{sym}
use Rattle.ls_mirror.proofs.Turning.{begins_sub_ok, begins_sub_cmd, begins_unsub, heard_eos, heard_cs, heard_ov, heard_u, fed_beginning, fed_hearing}
use Rattle.ls_mirror.proofs.client.Client.feed.Goals as goal

pub returns-in-SubOk-clause-ok : goal.returns-in-SubOk-clause-ok
returns-in-SubOk-clause-ok c = rw c.in-SubOk.is (fed_beginning c.begin.result c.args.self.now c.begin.new.self _ _ _ (begins_sub_ok _ _ _) c.begin.ensures.ok)

pub returns-in-SubCmd-clause-ok : goal.returns-in-SubCmd-clause-ok
returns-in-SubCmd-clause-ok c =
    let begins = begins_sub_cmd _ _ _ _ _ _ c.places_of_subcmd-places.ensures in
    rw c.in-SubCmd.is (fed_beginning c.begin-in-SubCmd.result c.args.self.now c.begin-in-SubCmd.new.self _ _ _ begins c.begin-in-SubCmd.ensures.ok)

pub returns-in-Unsub-clause-ok : goal.returns-in-Unsub-clause-ok
returns-in-Unsub-clause-ok c = rw c.in-Unsub.is (fed_beginning c.end.result c.args.self.now c.end.new.self _ _ _ (begins_unsub _) c.end.ensures.ok)

pub returns-in-Eos-clause-ok : goal.returns-in-Eos-clause-ok
returns-in-Eos-clause-ok c = rw c.in-Eos.is (fed_hearing c.hear.result c.args.self.now c.hear.new.self _ _ _ _ (heard_eos _ _) c.hear.ensures.ok)

pub returns-in-Eos-clause-bad : goal.returns-in-Eos-clause-bad
returns-in-Eos-clause-bad c = λ lines st e. absurd (c.hear.ensures.bad lines st e).2

pub returns-in-Cs-clause-ok : goal.returns-in-Cs-clause-ok
returns-in-Cs-clause-ok c = rw c.in-Cs.is (fed_hearing c.hear-in-Cs.result c.args.self.now c.hear-in-Cs.new.self _ _ _ _ (heard_cs _ _) c.hear-in-Cs.ensures.ok)

pub returns-in-Cs-clause-bad : goal.returns-in-Cs-clause-bad
returns-in-Cs-clause-bad c = λ lines st e. absurd (c.hear-in-Cs.ensures.bad lines st e).2

pub returns-in-Ov-clause-ok : goal.returns-in-Ov-clause-ok
returns-in-Ov-clause-ok c =
    rw c.in-Ov.is (fed_hearing c.hear-in-Ov.result c.args.self.now c.hear-in-Ov.new.self _ _ _ _ (heard_ov _ _ _) c.hear-in-Ov.ensures.ok)

pub returns-in-Ov-clause-bad : goal.returns-in-Ov-clause-bad
returns-in-Ov-clause-bad c = λ lines st e. absurd (c.hear-in-Ov.ensures.bad lines st e).2

pub returns-in-U-clause-ok : goal.returns-in-U-clause-ok
returns-in-U-clause-ok c =
    rw (c.in-U.is, sym c.as_slice.ensures) (fed_hearing c.hear-in-U.result c.args.self.now c.hear-in-U.new.self _ _ _ _ (heard_u _ _ _) c.hear-in-U.ensures.ok)

pub returns-in-U-clause-bad : goal.returns-in-U-clause-bad
returns-in-U-clause-bad c = λ lines st e. rw (c.in-U.is, sym c.as_slice.ensures) (c.hear-in-U.ensures.bad lines st e)

pub returns-in-U-clause-only_bad : goal.returns-in-U-clause-only_bad
returns-in-U-clause-only_bad c = λ lines st bad. c.hear-in-U.ensures.only_bad lines st (rw (c.in-U.is, sym c.as_slice.ensures) at bad)
