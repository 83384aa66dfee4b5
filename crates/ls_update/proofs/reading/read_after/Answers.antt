use Rattle.std.proofs.Common.{◌≡◌, ◌∷◌, length, drop, inr, arith, ◌∙◌, ap, take_all}
use Rattle.ls_update.specs.Reading.{tokens_of}
use Rattle.ls_update.specs.Growing.{tokens_behind}
use Rattle.ls_update.proofs.Divided.{behind_within}
use Rattle.ls_update.proofs.Growing.{reads_next, refused_next, drop_next, all_taken}
use Rattle.ls_update.proofs.reading.read_after.Goals as goal

pub overflow_add-number : goal.overflow_add-number
overflow_add-number c =
    let next : drop c.loop-rest.number (tokens_of c.args.bytes.now) ≡ c.first_piece.result.0.now
    ∷ tokens_behind c.first_piece.result.1 =
    c.loop-rest.invariant.others ∙ ap tokens_behind c.in-Some.is ∙ c.first_piece.ensures in
    let within = behind_within c.args.bytes.now c.loop-rest.number c.first_piece.result.0.now
    (tokens_behind c.first_piece.result.1) next in
    omega (arith, within)

pub returns-in-Err-clause-refused : goal.returns-in-Err-clause-refused
returns-in-Err-clause-refused c =
    let next = c.loop-rest.invariant.others ∙ ap tokens_behind c.in-Some.is ∙ c.first_piece.ensures in
    let inv = c.loop-rest.invariant in
    refused_next c.args.prev.now c.loop-rest.values.items (tokens_of c.args.bytes.now) _ c.loop-rest.number _
    c.in-Err.refused next inv.few inv.said c.in-Err.ensures.refused

pub loop-rest-preserved : goal.loop-rest-preserved
loop-rest-preserved c =
    let next = c.loop-rest.invariant.others ∙ ap tokens_behind c.in-Some.is ∙ c.first_piece.ensures in
    let grows = c.in_default-append_token.ensures.grows in
    record {
      few = grows.within;
      others = drop_next (tokens_of c.args.bytes.now) c.loop-rest.number _ _ next;
      said = reads_next c.args.prev.now c.loop-rest.values.items c.append_token.new.values.items
          (tokens_of c.args.bytes.now) _ c.loop-rest.number _ next c.loop-rest.invariant.said grows;
    }

pub returns-then-len-prev-clause-refused : goal.returns-then-len-prev-clause-refused
returns-then-len-prev-clause-refused c =
    let inv = c.loop-rest.invariant in
    let all = all_taken (tokens_of c.args.bytes.now) c.loop-rest.number
    (inv.others ∙ ap tokens_behind c.in_default.is) in
    let got : c.len-then-len-prev.result ≡ length c.loop-rest.values.items = omega arith in
    inr (record {
      row = c.loop-rest.values.items;
      few = omega arith;
      before = rw got (rw all at inv.said);
    })

pub returns-clause-row : goal.returns-clause-row
returns-clause-row c =
    let inv = c.loop-rest.invariant in
    let all = all_taken (tokens_of c.args.bytes.now) c.loop-rest.number
    (inv.others ∙ ap tokens_behind c.in_default.is) in
    let fields = take_all (length c.loop-rest.values.items) c.args.prev.now (omega arith) in
    rw c.of.ensures (rw (all, fields) at inv.said)
