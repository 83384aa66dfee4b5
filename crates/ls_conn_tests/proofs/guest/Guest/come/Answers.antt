use Rattle.std.proofs.Common.{None}
use Rattle.ls_conn.specs.Acting.{known}
use Rattle.ls_conn.proofs.Opened.{one_is_last, opened_one}
use Rattle.ls_conn_tests.proofs.guest.Guest.come.Goals as goal

pub of-requires : goal.of-requires
of-requires g c =
    record {
      last = one_is_last _ _ _
          (opened_one g.N.House.deed (record { link = c.args.link; own = None; name = c.args.name.now; params = c.args.params.now; now = c.args.now }) c.args.view.now c.new-seen.result
          (known c.act.new.view c.act.new.seen) c.act.result c.in-Opened.session c.in-Opened.epoch c.new-seen.ensures c.in-Opened.is c.act.ensures.acts);
    }
