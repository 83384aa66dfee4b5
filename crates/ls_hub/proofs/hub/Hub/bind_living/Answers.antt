use Rattle.std.proofs.Common.{refl, sym, ◌∙◌, ap}
use Rattle.std.proofs.lemmas.Result.{on_ok_weaker}
use Rattle.std.specs.Prelude.{Err}
use Rattle.ls_record.specs.Acting.{bind_code}
use Rattle.ls_record.specs.Records.{rebound}
use Rattle.ls_hub.proofs.Hubs.{on_failed}
use Rattle.ls_hub.proofs.Operated.{refused, unchanged}
use Rattle.ls_hub.proofs.Requested.{refused_stands}
use Rattle.ls_hub.proofs.Streams.{bind_refused, bind_done, named_code}
use Rattle.ls_hub.proofs.hub.Hub.bind_living.Goals as goal

pub returns-in-Err-Code-clause-ok : goal.returns-in-Err-Code-clause-ok
returns-in-Err-Code-clause-ok c = on_ok_weaker c.refuse_stream.result (λ did w s st living named.
    let d = refused c.args.self.now _ w s c.args.place c.index_mut.result.now c.bind.new.self (λ x. bind_code x c.args.bind.now) c.in-Err-Code.code
    (rebound c.args.bind.now.session c.args.bind.now) st living
    (record { low = c.requires; at = c.index_mut.ensures.value; config = refl; tick = refl; connections = refl; sessions = refl }) refl refl
    (λ q stands. sym (named_code c.args.self.now w c.args.place c.index_mut.result.now q c.args.bind.now st c.requires c.index_mut.ensures.value named stands).1
    ∙ c.in-Err-Code.ensures.refused c.in-Err-Code.code (ap (λ x. Err x) c.in-Err-Code.field-0-is) q stands) c.in-Err-Code.ensures.err in
    bind_refused _ w c.args.connection c.args.bind.now c.args.place s (rebound c.args.bind.now.session c.args.bind.now) c.in-Err-Code.code
    c.args.text.now.items c.refuse_stream.new.text.items d
    (did w (refused_stands _ w c.args.place (bind_code s c.args.bind.now) (rebound c.args.bind.now.session c.args.bind.now) c.in-Err-Code.code d)))
    c.refuse_stream.ensures

pub returns-in-Ok-clause-ok : goal.returns-in-Ok-clause-ok
returns-in-Ok-clause-ok c = λ w s st living named.
    bind_done c.args.self.now _ w s c.args.connection c.args.place c.index_mut.result.now c.bind.new.self c.args.bind.now c.in-Ok.epoch
    c.args.text.now.items st living named
    (record { low = c.requires; at = c.index_mut.ensures.value; config = refl; tick = refl; connections = refl; sessions = refl }) refl refl
    c.give_session.ensures c.in-Ok.ensures.accepted

pub returns-in-Err-Code-clause-err : goal.returns-in-Err-Code-clause-err
returns-in-Err-Code-clause-err c = on_failed c.refuse_stream.result (λ w st.
    unchanged c.args.self.now _ w c.args.place c.index_mut.result.now c.bind.new.self st
    (record { low = c.requires; at = c.index_mut.ensures.value; config = refl; tick = refl; connections = refl; sessions = refl }) refl
    (λ items lives cells. cells) c.in-Err-Code.ensures.err)

pub returns-in-Err-NoMemory-clause-err : goal.returns-in-Err-NoMemory-clause-err
returns-in-Err-NoMemory-clause-err c = λ w st.
    unchanged c.args.self.now _ w c.args.place c.index_mut.result.now c.bind.new.self st
    (record { low = c.requires; at = c.index_mut.ensures.value; config = refl; tick = refl; connections = refl; sessions = refl }) refl
    (λ items lives cells. cells) c.in-Err-NoMemory.ensures.err
