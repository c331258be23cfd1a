use Rattle.std.proofs.Common.{map, inl, inr, refl, string_bytes}
use Rattle.command_words.specs.Command.{Request, run, cached, exec, request_of}
use Rattle.wg_top.specs.Outside.{Outside, outside, EndsSaying, usage_line}
use Rattle.wg_top.proofs.EndLemmas.{asked_failed, asked_absent, asked_no_save, asked_quiet, asked_line, asked_out}
use Rattle.wg_top.proofs.EndLemmas.{asked_no_usage, asked_memory}
use Rattle.wg_top.proofs.WordLemmas.{as_asked}
use Rattle.wg_top.proofs.CompleteLemmas.{ends_clean, ends_loops}
use Rattle.wg_top.proofs.AskedLemmas.{asked_complete, asked_exact}
use Rattle.wg_top.proofs.ExecOfSourceLemmas.{exec_of_source}
use Rattle.wg_top.proofs.HonestEndLemmas.{with_honest}
use Rattle.wg_top.proofs.PromiseLemmas.{promise}
use Rattle.cl_front.proofs.FaultLemmas.{forms_hold}
use Rattle.wg_top.proofs.ProgramLemmas.{kept_once_in_each}
use Rattle.wg_top.proofs.wgcc.Goals as goal

pub returns-in-Ok-clause-ends : goal.returns-in-Ok-clause-ends
returns-in-Ok-clause-ends g c =
    let old : Outside = (outside g.S.Store.files g.S.Store.faults g.S.Store.misses g.O.Sink.written g.O.Sink.faults
    g.E.Sink.written g.E.Sink.faults c.args.store.now c.args.out.now c.args.err.now) in
    let new : Outside = (outside g.S.Store.files g.S.Store.faults g.S.Store.misses g.O.Sink.written g.O.Sink.faults
    g.E.Sink.written g.E.Sink.faults c.do_words.new.store c.do_words.new.out c.do_words.new.err) in
    let request : Request = request_of c.in-Ok.asked in
    λ other given. as_asked old new (map string_bytes c.args.words.now) request other c.do_words.result
    c.in-Ok.ensures.asked given.asks c.do_words.ensures

pub returns-in-Ok-clause-usage_only : goal.returns-in-Ok-clause-usage_only
returns-in-Ok-clause-usage_only g c =
    let old : Outside = (outside g.S.Store.files g.S.Store.faults g.S.Store.misses g.O.Sink.written g.O.Sink.faults
    g.E.Sink.written g.E.Sink.faults c.args.store.now c.args.out.now c.args.err.now) in
    let new : Outside = (outside g.S.Store.files g.S.Store.faults g.S.Store.misses g.O.Sink.written g.O.Sink.faults
    g.E.Sink.written g.E.Sink.faults c.do_words.new.store c.do_words.new.out c.do_words.new.err) in
    let request : Request = request_of c.in-Ok.asked in
    λ two taken. asked_no_usage old new request c.do_words.result c.do_words.ensures two

pub returns-in-Ok-clause-usage_line : goal.returns-in-Ok-clause-usage_line
returns-in-Ok-clause-usage_line g c =
    let old : Outside = (outside g.S.Store.files g.S.Store.faults g.S.Store.misses g.O.Sink.written g.O.Sink.faults
    g.E.Sink.written g.E.Sink.faults c.args.store.now c.args.out.now c.args.err.now) in
    let new : Outside = (outside g.S.Store.files g.S.Store.faults g.S.Store.misses g.O.Sink.written g.O.Sink.faults
    g.E.Sink.written g.E.Sink.faults c.do_words.new.store c.do_words.new.out c.do_words.new.err) in
    let request : Request = request_of c.in-Ok.asked in
    λ two. absurd {A = EndsSaying old new usage_line} (asked_no_usage old new request c.do_words.result
    c.do_words.ensures two)

pub returns-in-Ok-clause-failed : goal.returns-in-Ok-clause-failed
returns-in-Ok-clause-failed g c =
    let old : Outside = (outside g.S.Store.files g.S.Store.faults g.S.Store.misses g.O.Sink.written g.O.Sink.faults
    g.E.Sink.written g.E.Sink.faults c.args.store.now c.args.out.now c.args.err.now) in
    let new : Outside = (outside g.S.Store.files g.S.Store.faults g.S.Store.misses g.O.Sink.written g.O.Sink.faults
    g.E.Sink.written g.E.Sink.faults c.do_words.new.store c.do_words.new.out c.do_words.new.err) in
    let request : Request = request_of c.in-Ok.asked in
    asked_failed old new request c.do_words.result c.do_words.ensures

pub returns-in-Ok-clause-absent : goal.returns-in-Ok-clause-absent
returns-in-Ok-clause-absent g c =
    let old : Outside = (outside g.S.Store.files g.S.Store.faults g.S.Store.misses g.O.Sink.written g.O.Sink.faults
    g.E.Sink.written g.E.Sink.faults c.args.store.now c.args.out.now c.args.err.now) in
    let new : Outside = (outside g.S.Store.files g.S.Store.faults g.S.Store.misses g.O.Sink.written g.O.Sink.faults
    g.E.Sink.written g.E.Sink.faults c.do_words.new.store c.do_words.new.out c.do_words.new.err) in
    let request : Request = request_of c.in-Ok.asked in
    asked_absent old new request c.do_words.result c.do_words.ensures

pub returns-in-Ok-clause-no_save : goal.returns-in-Ok-clause-no_save
returns-in-Ok-clause-no_save g c =
    let old : Outside = (outside g.S.Store.files g.S.Store.faults g.S.Store.misses g.O.Sink.written g.O.Sink.faults
    g.E.Sink.written g.E.Sink.faults c.args.store.now c.args.out.now c.args.err.now) in
    let new : Outside = (outside g.S.Store.files g.S.Store.faults g.S.Store.misses g.O.Sink.written g.O.Sink.faults
    g.E.Sink.written g.E.Sink.faults c.do_words.new.store c.do_words.new.out c.do_words.new.err) in
    let request : Request = request_of c.in-Ok.asked in
    asked_no_save old new request c.do_words.result c.do_words.ensures

pub returns-in-Ok-clause-quiet : goal.returns-in-Ok-clause-quiet
returns-in-Ok-clause-quiet g c =
    let old : Outside = (outside g.S.Store.files g.S.Store.faults g.S.Store.misses g.O.Sink.written g.O.Sink.faults
    g.E.Sink.written g.E.Sink.faults c.args.store.now c.args.out.now c.args.err.now) in
    let new : Outside = (outside g.S.Store.files g.S.Store.faults g.S.Store.misses g.O.Sink.written g.O.Sink.faults
    g.E.Sink.written g.E.Sink.faults c.do_words.new.store c.do_words.new.out c.do_words.new.err) in
    let request : Request = request_of c.in-Ok.asked in
    asked_quiet old new request c.do_words.result c.do_words.ensures

pub returns-in-Ok-clause-line : goal.returns-in-Ok-clause-line
returns-in-Ok-clause-line g c =
    let old : Outside = (outside g.S.Store.files g.S.Store.faults g.S.Store.misses g.O.Sink.written g.O.Sink.faults
    g.E.Sink.written g.E.Sink.faults c.args.store.now c.args.out.now c.args.err.now) in
    let new : Outside = (outside g.S.Store.files g.S.Store.faults g.S.Store.misses g.O.Sink.written g.O.Sink.faults
    g.E.Sink.written g.E.Sink.faults c.do_words.new.store c.do_words.new.out c.do_words.new.err) in
    let request : Request = request_of c.in-Ok.asked in
    asked_line old new request c.do_words.result c.do_words.ensures

pub returns-in-Ok-clause-out : goal.returns-in-Ok-clause-out
returns-in-Ok-clause-out g c =
    let old : Outside = (outside g.S.Store.files g.S.Store.faults g.S.Store.misses g.O.Sink.written g.O.Sink.faults
    g.E.Sink.written g.E.Sink.faults c.args.store.now c.args.out.now c.args.err.now) in
    let new : Outside = (outside g.S.Store.files g.S.Store.faults g.S.Store.misses g.O.Sink.written g.O.Sink.faults
    g.E.Sink.written g.E.Sink.faults c.do_words.new.store c.do_words.new.out c.do_words.new.err) in
    let request : Request = request_of c.in-Ok.asked in
    asked_out old new request c.do_words.result c.do_words.ensures

pub returns-in-Ok-clause-complete : goal.returns-in-Ok-clause-complete
returns-in-Ok-clause-complete g c =
    let old : Outside = (outside g.S.Store.files g.S.Store.faults g.S.Store.misses g.O.Sink.written g.O.Sink.faults
    g.E.Sink.written g.E.Sink.faults c.args.store.now c.args.out.now c.args.err.now) in
    let new : Outside = (outside g.S.Store.files g.S.Store.faults g.S.Store.misses g.O.Sink.written g.O.Sink.faults
    g.E.Sink.written g.E.Sink.faults c.do_words.new.store c.do_words.new.out c.do_words.new.err) in
    let request : Request = request_of c.in-Ok.asked in
    λ other given all quiet out_quiet. asked_complete old new other c.do_words.result
    (as_asked old new (map string_bytes c.args.words.now) request other c.do_words.result c.in-Ok.ensures.asked
    given.asks c.do_words.ensures) all quiet out_quiet

pub returns-in-Ok-clause-clean : goal.returns-in-Ok-clause-clean
returns-in-Ok-clause-clean g c =
    let old : Outside = (outside g.S.Store.files g.S.Store.faults g.S.Store.misses g.O.Sink.written g.O.Sink.faults
    g.E.Sink.written g.E.Sink.faults c.args.store.now c.args.out.now c.args.err.now) in
    let new : Outside = (outside g.S.Store.files g.S.Store.faults g.S.Store.misses g.O.Sink.written g.O.Sink.faults
    g.E.Sink.written g.E.Sink.faults c.do_words.new.store c.do_words.new.out c.do_words.new.err) in
    let request : Request = request_of c.in-Ok.asked in
    λ ask text s given all quiet out_quiet. ends_clean old new ask text s c.do_words.result
    (as_asked old new (map string_bytes c.args.words.now) request (run ask) c.do_words.result
    c.in-Ok.ensures.asked given.asks c.do_words.ensures) all quiet out_quiet

pub returns-in-Ok-clause-looped : goal.returns-in-Ok-clause-looped
returns-in-Ok-clause-looped g c =
    let old : Outside = (outside g.S.Store.files g.S.Store.faults g.S.Store.misses g.O.Sink.written g.O.Sink.faults
    g.E.Sink.written g.E.Sink.faults c.args.store.now c.args.out.now c.args.err.now) in
    let new : Outside = (outside g.S.Store.files g.S.Store.faults g.S.Store.misses g.O.Sink.written g.O.Sink.faults
    g.E.Sink.written g.E.Sink.faults c.do_words.new.store c.do_words.new.out c.do_words.new.err) in
    let request : Request = request_of c.in-Ok.asked in
    λ ask given seven. ends_loops old new ask c.do_words.result (as_asked old new (map string_bytes c.args.words.now)
    request (run ask) c.do_words.result c.in-Ok.ensures.asked given.asks c.do_words.ensures) seven

pub returns-in-Ok-clause-built : goal.returns-in-Ok-clause-built
returns-in-Ok-clause-built g c =
    let old : Outside = (outside g.S.Store.files g.S.Store.faults g.S.Store.misses g.O.Sink.written g.O.Sink.faults
    g.E.Sink.written g.E.Sink.faults c.args.store.now c.args.out.now c.args.err.now) in
    let new : Outside = (outside g.S.Store.files g.S.Store.faults g.S.Store.misses g.O.Sink.written g.O.Sink.faults
    g.E.Sink.written g.E.Sink.faults c.do_words.new.store c.do_words.new.out c.do_words.new.err) in
    let request : Request = request_of c.in-Ok.asked in
    λ ask given. exec_of_source old new ask c.do_words.result (as_asked old new (map string_bytes c.args.words.now)
    request (exec ask) c.do_words.result c.in-Ok.ensures.asked given.asks c.do_words.ensures)

pub returns-in-Ok-clause-exact : goal.returns-in-Ok-clause-exact
returns-in-Ok-clause-exact g c =
    let old : Outside = (outside g.S.Store.files g.S.Store.faults g.S.Store.misses g.O.Sink.written g.O.Sink.faults
    g.E.Sink.written g.E.Sink.faults c.args.store.now c.args.out.now c.args.err.now) in
    let new : Outside = (outside g.S.Store.files g.S.Store.faults g.S.Store.misses g.O.Sink.written g.O.Sink.faults
    g.E.Sink.written g.E.Sink.faults c.do_words.new.store c.do_words.new.out c.do_words.new.err) in
    let request : Request = request_of c.in-Ok.asked in
    λ other error given finds quiet. asked_exact old new other error c.do_words.result
    (as_asked old new (map string_bytes c.args.words.now) request other c.do_words.result c.in-Ok.ensures.asked
    given.asks c.do_words.ensures) finds quiet

pub returns-in-Ok-clause-usage : goal.returns-in-Ok-clause-usage
returns-in-Ok-clause-usage g c = λ other. absurd (other c.in-Ok.ensures.taken)

pub returns-in-Err-Memory-clause-ends : goal.returns-in-Err-Memory-clause-ends
returns-in-Err-Memory-clause-ends g c =
    let old : Outside = (outside g.S.Store.files g.S.Store.faults g.S.Store.misses g.O.Sink.written g.O.Sink.faults
    g.E.Sink.written g.E.Sink.faults c.args.store.now c.args.out.now c.args.err.now) in
    let new : Outside = (outside g.S.Store.files g.S.Store.faults g.S.Store.misses g.O.Sink.written g.O.Sink.faults
    g.E.Sink.written g.E.Sink.faults c.args.store.now c.args.out.now c.say_error.new.sink) in
    λ request given. asked_memory old new request (record {
      store_stays = refl;
      out_stays = refl;
      said = c.say_error.ensures.said;
    })

pub returns-in-Err-Memory-clause-built : goal.returns-in-Err-Memory-clause-built
returns-in-Err-Memory-clause-built g c =
    let old : Outside = (outside g.S.Store.files g.S.Store.faults g.S.Store.misses g.O.Sink.written g.O.Sink.faults
    g.E.Sink.written g.E.Sink.faults c.args.store.now c.args.out.now c.args.err.now) in
    let new : Outside = (outside g.S.Store.files g.S.Store.faults g.S.Store.misses g.O.Sink.written g.O.Sink.faults
    g.E.Sink.written g.E.Sink.faults c.args.store.now c.args.out.now c.say_error.new.sink) in
    λ ask given. exec_of_source old new ask 8 (asked_memory old new (exec ask) (record {
      store_stays = refl;
      out_stays = refl;
      said = c.say_error.ensures.said;
    }))

pub returns-in-Err-Usage-clause-built : goal.returns-in-Err-Usage-clause-built
returns-in-Err-Usage-clause-built g c = λ ask given. absurd (c.read_words.ensures.usage (cc) given.taken)

pub returns-in-Err-Usage-clause-complete : goal.returns-in-Err-Usage-clause-complete
returns-in-Err-Usage-clause-complete g c =
    λ request given all quiet out_quiet. absurd (c.read_words.ensures.usage (cc) given.taken)

pub returns-in-Err-Usage-clause-clean : goal.returns-in-Err-Usage-clause-clean
returns-in-Err-Usage-clause-clean g c =
    λ ask text s given all quiet out_quiet. absurd (c.read_words.ensures.usage (cc) given.taken)

pub returns-in-Err-Memory-clause-clean : goal.returns-in-Err-Memory-clause-clean
returns-in-Err-Memory-clause-clean g c = λ ask text s given all quiet out_quiet. inr (refl, refl)

pub returns-in-Ok-clause-unread : goal.returns-in-Ok-clause-unread
returns-in-Ok-clause-unread g c =
    λ none. absurd (none (request_of c.in-Ok.asked) (record {
      taken = c.in-Ok.ensures.taken;
      asks = c.in-Ok.ensures.asked;
    }))

pub returns-in-Err-Usage-clause-unread : goal.returns-in-Err-Usage-clause-unread
returns-in-Err-Usage-clause-unread g c =
    λ none. inl (refl, record { store_stays = refl; out_stays = refl; said = c.say_usage.ensures.said })

pub returns-in-Err-Memory-clause-unread : goal.returns-in-Err-Memory-clause-unread
returns-in-Err-Memory-clause-unread g c =
    λ none. inr (refl, record { store_stays = refl; out_stays = refl; said = c.say_error.ensures.said })

pub returns-in-Ok-clause-cached : goal.returns-in-Ok-clause-cached
returns-in-Ok-clause-cached g c =
    let old : Outside = (outside g.S.Store.files g.S.Store.faults g.S.Store.misses g.O.Sink.written g.O.Sink.faults
    g.E.Sink.written g.E.Sink.faults c.args.store.now c.args.out.now c.args.err.now) in
    let new : Outside = (outside g.S.Store.files g.S.Store.faults g.S.Store.misses g.O.Sink.written g.O.Sink.faults
    g.E.Sink.written g.E.Sink.faults c.do_words.new.store c.do_words.new.out c.do_words.new.err) in
    let request : Request = request_of c.in-Ok.asked in
    λ ask given told honest. with_honest old new ask c.do_words.result told honest (as_asked old new
    (map string_bytes c.args.words.now) request (cached ask) c.do_words.result c.in-Ok.ensures.asked given.asks
    c.do_words.ensures)

pub returns-in-Err-Memory-clause-cached : goal.returns-in-Err-Memory-clause-cached
returns-in-Err-Memory-clause-cached g c =
    let old : Outside = (outside g.S.Store.files g.S.Store.faults g.S.Store.misses g.O.Sink.written g.O.Sink.faults
    g.E.Sink.written g.E.Sink.faults c.args.store.now c.args.out.now c.args.err.now) in
    let new : Outside = (outside g.S.Store.files g.S.Store.faults g.S.Store.misses g.O.Sink.written g.O.Sink.faults
    g.E.Sink.written g.E.Sink.faults c.args.store.now c.args.out.now c.say_error.new.sink) in
    λ ask given told honest. with_honest old new ask 8 told honest (asked_memory old new (cached ask) (record {
      store_stays = refl;
      out_stays = refl;
      said = c.say_error.ensures.said;
    }))

pub returns-in-Err-Usage-clause-cached : goal.returns-in-Err-Usage-clause-cached
returns-in-Err-Usage-clause-cached g c =
    λ ask given told honest. absurd (c.read_words.ensures.usage (cc) given.taken)

pub returns-in-Ok-clause-promise : goal.returns-in-Ok-clause-promise
returns-in-Ok-clause-promise g c =
    let old : Outside = (outside g.S.Store.files g.S.Store.faults g.S.Store.misses g.O.Sink.written g.O.Sink.faults
    g.E.Sink.written g.E.Sink.faults c.args.store.now c.args.out.now c.args.err.now) in
    let new : Outside = (outside g.S.Store.files g.S.Store.faults g.S.Store.misses g.O.Sink.written g.O.Sink.faults
    g.E.Sink.written g.E.Sink.faults c.do_words.new.store c.do_words.new.out c.do_words.new.err) in
    let request : Request = request_of c.in-Ok.asked in
    record {
      asked = λ other given. promise old new other c.do_words.result (as_asked old new
          (map string_bytes c.args.words.now) request other c.do_words.result c.in-Ok.ensures.asked given.asks
          c.do_words.ensures);
      unasked = λ none. absurd (none request (record {
        taken = c.in-Ok.ensures.taken;
        asks = c.in-Ok.ensures.asked;
      }));
    }

pub returns-in-Err-Memory-clause-promise : goal.returns-in-Err-Memory-clause-promise
returns-in-Err-Memory-clause-promise g c =
    let old : Outside = (outside g.S.Store.files g.S.Store.faults g.S.Store.misses g.O.Sink.written g.O.Sink.faults
    g.E.Sink.written g.E.Sink.faults c.args.store.now c.args.out.now c.args.err.now) in
    let new : Outside = (outside g.S.Store.files g.S.Store.faults g.S.Store.misses g.O.Sink.written g.O.Sink.faults
    g.E.Sink.written g.E.Sink.faults c.args.store.now c.args.out.now c.say_error.new.sink) in
    record {
      asked = λ request given. promise old new request 8 (asked_memory old new request (record {
        store_stays = refl;
        out_stays = refl;
        said = c.say_error.ensures.said;
      }));
      unasked = λ none. inr (
        refl,
        record {
          store_stays = refl;
          out_stays = refl;
          said = c.say_error.ensures.said;
        },
      );
    }

pub returns-in-Err-Usage-clause-promise : goal.returns-in-Err-Usage-clause-promise
returns-in-Err-Usage-clause-promise g c = record {
  asked = λ request given. absurd (c.read_words.ensures.usage (cc) given.taken);
  unasked = λ none. inl (
    refl,
    record {
      store_stays = refl;
      out_stays = refl;
      said = c.say_usage.ensures.said;
    },
  );
}

pub returns-in-Ok-clause-vectors : goal.returns-in-Ok-clause-vectors
returns-in-Ok-clause-vectors g c = forms_hold

pub returns-in-Err-Memory-clause-vectors : goal.returns-in-Err-Memory-clause-vectors
returns-in-Err-Memory-clause-vectors g c = forms_hold

pub returns-in-Err-Usage-clause-vectors : goal.returns-in-Err-Usage-clause-vectors
returns-in-Err-Usage-clause-vectors g c = forms_hold

pub returns-in-Ok-clause-once : goal.returns-in-Ok-clause-once
returns-in-Ok-clause-once g c = kept_once_in_each

pub returns-in-Err-Memory-clause-once : goal.returns-in-Err-Memory-clause-once
returns-in-Err-Memory-clause-once g c = kept_once_in_each

pub returns-in-Err-Usage-clause-once : goal.returns-in-Err-Usage-clause-once
returns-in-Err-Usage-clause-once g c = kept_once_in_each
