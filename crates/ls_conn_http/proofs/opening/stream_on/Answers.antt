use Rattle.std.proofs.Common.{◌≡◌, ◌∙◌, ℕ, List, Option, sym, ap, subst}
use Rattle.ls_wire.specs.Writing.{cut_to}
use Rattle.ls_outside.proofs.Bytes.{rose_before}
use Rattle.ls_conn.proofs.Opened.{one_is_last}
use Rattle.ls_conn_http.proofs.Sending.{lent_is, name_is, rose_part, sent_over}
use Rattle.ls_conn_http.proofs.opening.stream_on.Goals as goal

pub stream_last-end-requires : goal.stream_last-end-requires
stream_last-end-requires g c = record { last = one_is_last _ _ _ c.requires.opened }

pub returns-clause-same_reference : goal.returns-clause-same_reference
returns-clause-same_reference g c = c.let_go-whole.ensures.lender ∙ name_is _ _ c.stream_last-end.ensures.lender

pub returns-clause-fault : goal.returns-clause-fault
returns-clause-fault g c = λ is. rose_before _ _ _ (c.stream_last-end.ensures.fault is) c.let_go-whole.ensures.cause.later

pub returns-clause-part : goal.returns-clause-part
returns-clause-part g c = λ is. rose_part _ _ _ c.stream_last-end.ensures.faults (c.let_go-whole.ensures.cause.part is)

pub returns-clause-sent : goal.returns-clause-sent
returns-clause-sent g c =
    let l = c.stream_last-end.ensures.last in
    let e = c.let_go-whole.ensures in
    let lent = ap (λ x. g.C.Sink.held x.value) e.lent ∙ (lent_is _ _ c.stream_last-end.ensures.lender ∙ ap g.C.Sink.held (sym c.requires.fresh)) in
    record {
      front = l.front;
      before = l.before;
      after = l.after;
      were = l.were;
      are = l.are;
      holds = sent_over _ _ _ _ _ _ _ _ _ l.before l.after l.holds e.held
          (subst (λ (x : Option (List ℕ)). cut_to x (g.C.Sink.held c.let_go-whole.new.self.conn.now) ≡ x) lent c.let_go-whole.new.self.begun) e.all;
    }
