use Rattle.std.proofs.Common.{◌≡◌, ◌-◌, ◌++◌, [], ◌∷◌, sym, ◌∙◌, append-nil, arith, rules}
use Rattle.wg_top.proofs.SampleLemmas.{one_word, all_words}
use Rattle.wg_top.proofs.sample.first_words.Goals as goal

pub loop-k-preserved : goal.loop-k-preserved
loop-k-preserved c =
    let pushed : c.push.new.self.items ≡ c.loop-k.list.items ++ c.word_at.result ∷ [] = search rules in
    one_word c.args.number c.loop-k.k c.args.count c.loop-k.list.items c.push.new.self.items _ c.word_at.result
    (omega (arith, c.loop-k-test.true)) pushed c.word_at.ensures c.loop-k.invariant

pub returns : goal.returns
returns c =
    let none : c.args.count - c.loop-k.k ≡ 0 = omega (arith, c.loop-k-test.false) in
    sym (append-nil c.loop-k.list.items) ∙
    all_words c.args.number c.loop-k.k c.args.count c.loop-k.list.items _ none c.loop-k.invariant
