use Rattle.std.proofs.Common.{◌≡◌, ℕ, ◌+◌, ◌-◌, ◌<◌, length, take, drop, None, Some, refl, ap, sym, ◌∙◌, subst, arith}
use Rattle.std.specs.Prelude.{◌||◌}
use Rattle.std.specs.Prelude.{Bool as Test, true, false}
use Rattle.kir.specs.Tree.{Lines, NoLine}
use Rattle.kir.specs.Places.{Place, Tasks}
use Rattle.kir.specs.Listed.{line_before, lines_of}
use Rattle.kir.specs.Live.{live_in}
use Rattle.regions.specs.declared.splitting.Ending.{Ending}
use Rattle.regions.specs.Tree.{NoRegion}
use Rattle.regions.specs.View.{region_of, tree_before}
use Rattle.regions.specs.Split.{until_cut, cut_into}
use Rattle.regions.specs.Living.{those_of, IsSet, Becomes, through, answer_live}
use Rattle.regions.specs.Cutting.{AreLiveAt, ended, cut_by}
use Rattle.regions.proofs.Walk.{whole_region, walked_start, walked_at, walked_quiet, walked_cut, cut_if, cut_loop}
use Rattle.regions.proofs.splitting.+cut.Goals as goal

pub cut_line-returns-in_ok-mixed-in-If : goal.cut_line-returns-in_ok-mixed-in-If
cut_line-returns-in_ok-mixed-in-If t c =
    let cells = c.args.cells in
    let now = c.args.now.now.items in
    let yes = tree_before c.in_ok-yes-in-If.yes.value NoRegion in
    let no = tree_before c.in_ok-no-in-If.no.value NoRegion in
    cut_if cells now c.args.line.now c.in-If.site c.in-If.test c.in-If.yes c.in-If.no yes no
    (region_of c.in_ok-mixed-in-If.mixed) c.in-If.is c.requires
    (subst (λ xs. (at : Place) (k : Tasks) → AreLiveAt cells now now k →
    yes ≡ cut_into cells None (until_cut (lines_of xs)) at (lines_of xs) k) c.deref.ensures.value
    c.in_ok-yes-in-If.ensures)
    (subst (λ xs. (at : Place) (k : Tasks) → AreLiveAt cells now now k →
    no ≡ cut_into cells None (until_cut (lines_of xs)) at (lines_of xs) k) c.deref-in-If.ensures.value
    c.in_ok-no-in-If.ensures)
    (subst (λ xs. region_of c.in_ok-mixed-in-If.mixed ≡ record {
      lines = line_before c.args.line.now NoLine;
      answer = None;
      from_vote = false;
      live = those_of c.args.cells xs;
    }) c.deref-in-If-2.ensures.value
    c.in_ok-mixed-in-If.ensures)

pub cut_line-returns-in_ok-rest-in-Loop : goal.cut_line-returns-in_ok-rest-in-Loop
cut_line-returns-in_ok-rest-in-Loop t c =
    let cells = c.args.cells in
    let now = c.args.now.now.items in
    let a = c.in-Loop.answer in
    let around = c.in_ok-around-in-Loop.around in
    let test_tree = tree_before c.in_ok-test-in-Loop.test.value NoRegion in
    let body_tree = tree_before c.in_ok-body-in-Loop.body.value NoRegion in
    cut_loop cells now c.args.line.now c.in-Loop.site c.in-Loop.test_first c.in-Loop.test a c.in-Loop.body test_tree
    body_tree (region_of c.in_ok-rest-in-Loop.rest) around.before_test.items around.at_answer.items
    around.behind_answer.items c.in-Loop.is c.requires
    (subst (λ ws. (f : ℕ → Test) → IsSet cells ws f →
    IsSet cells around.at_answer.items (answer_live (lines_of c.in-Loop.test.items) a
    (lines_of c.in-Loop.body.items) f)) c.deref-in-Loop-3.ensures.value
    (subst (λ bs. (f : ℕ → Test) → IsSet cells c.deref-in-Loop-3.result.now f →
    IsSet cells around.at_answer.items (answer_live (lines_of c.in-Loop.test.items) a (lines_of bs) f))
    c.deref-in-Loop-2.ensures.value
    (subst (λ ts. (f : ℕ → Test) → IsSet cells c.deref-in-Loop-3.result.now f →
    IsSet cells around.at_answer.items (answer_live (lines_of ts) a (lines_of c.deref-in-Loop-2.result.now)
    f)) c.deref-in-Loop.ensures.value
    c.in_ok-around-in-Loop.ensures.at)))
    (subst (λ ws. (f : ℕ → Test) → IsSet cells ws f →
    IsSet cells around.before_test.items (λ d. live_in d (lines_of c.in-Loop.test.items)
    (answer_live (lines_of c.in-Loop.test.items) a (lines_of c.in-Loop.body.items) f d)))
    c.deref-in-Loop-3.ensures.value
    (subst (λ bs. (f : ℕ → Test) → IsSet cells c.deref-in-Loop-3.result.now f →
    IsSet cells around.before_test.items (λ d. live_in d (lines_of c.in-Loop.test.items)
    (answer_live (lines_of c.in-Loop.test.items) a (lines_of bs) f d))) c.deref-in-Loop-2.ensures.value
    (subst (λ ts. (f : ℕ → Test) → IsSet cells c.deref-in-Loop-3.result.now f →
    IsSet cells around.before_test.items
    (λ d. live_in d (lines_of ts) (answer_live (lines_of ts) a (lines_of c.deref-in-Loop-2.result.now) f d)))
    c.deref-in-Loop.ensures.value
    c.in_ok-around-in-Loop.ensures.before)))
    (subst (λ ws. (f : ℕ → Test) → IsSet cells ws f →
    IsSet cells around.behind_answer.items (λ d. f d || live_in d (lines_of c.in-Loop.body.items)
    (live_in d (lines_of c.in-Loop.test.items) (answer_live (lines_of c.in-Loop.test.items) a
    (lines_of c.in-Loop.body.items) f d)))) c.deref-in-Loop-3.ensures.value
    (subst (λ bs. (f : ℕ → Test) → IsSet cells c.deref-in-Loop-3.result.now f →
    IsSet cells around.behind_answer.items
    (λ d. f d || live_in d (lines_of bs)
    (live_in d (lines_of c.in-Loop.test.items) (answer_live (lines_of c.in-Loop.test.items) a (lines_of bs)
    f d)))) c.deref-in-Loop-2.ensures.value
    (subst (λ ts. (f : ℕ → Test) → IsSet cells c.deref-in-Loop-3.result.now f →
    IsSet cells around.behind_answer.items (λ d. f d || live_in d (lines_of c.deref-in-Loop-2.result.now)
    (live_in d (lines_of ts) (answer_live (lines_of ts) a (lines_of c.deref-in-Loop-2.result.now) f d))))
    c.deref-in-Loop.ensures.value
    c.in_ok-around-in-Loop.ensures.behind)))
    (subst (λ xs. (at : Place) (k : Tasks) → AreLiveAt cells around.at_answer.items around.behind_answer.items k →
    test_tree ≡ cut_into cells (Some a) (until_cut (lines_of xs)) at (lines_of xs) k)
    c.deref-in-Loop-4.ensures.value c.in_ok-test-in-Loop.ensures)
    (subst (λ xs. (at : Place) (k : Tasks) → AreLiveAt cells around.before_test.items around.before_test.items k →
    body_tree ≡ cut_into cells None (until_cut (lines_of xs)) at (lines_of xs) k)
    c.deref-in-Loop-5.ensures.value c.in_ok-body-in-Loop.ensures)
    (subst (λ xs. region_of c.in_ok-rest-in-Loop.rest ≡ record {
      lines = line_before c.args.line.now NoLine;
      answer = None;
      from_vote = true;
      live = those_of c.args.cells xs;
    }) c.deref-in-Loop-6.ensures.value
    c.in_ok-rest-in-Loop.ensures)

pub cut_lines-returns-then-not-lines_hold-clause-cut : goal.cut_lines-returns-then-not-lines_hold-clause-cut
cut_lines-returns-then-not-lines_hold-clause-cut t c = λ at k is.
    whole_region c.args.cells c.args.ends at (lines_of c.args.lines.now) k c.args.behind.now.items
    c.in_ok-live.live.items (region_of c.in_ok-region.region) (sym c.lines_hold.ensures ∙
    c.if-not-lines_hold.true) is.there
    (c.in_ok-live.ensures ∙ ap (those_of c.args.cells) c.deref.ensures.value) c.in_ok-region.ensures

pub cut_lines-loop-i-init : goal.cut_lines-loop-i-init
cut_lines-loop-i-init t c =
    let e : Ending = record {
      end = length c.args.lines.now;
      answer = c.args.ends;
      live = c.in_ok-live.live;
      choice = None;
      behind = c.new.result;
    } in
    walked_start c.args.cells c.args.ends c.args.now.now.items c.args.behind.now.items c.args.lines.now e
    c.in_ok-passing.passing.dead.items c.in_ok-passing.passing.live.items refl refl
    (c.in_ok-live.ensures ∙ ap (those_of c.args.cells) c.deref.ensures.value) refl c.new.ensures.items
    c.in_ok-passing.ensures

pub cut_lines-loop-i-preserved-then-line_holds : goal.cut_lines-loop-i-preserved-then-line_holds
cut_lines-loop-i-preserved-then-line_holds t c =
    let now = c.args.now.now.items in
    let lines = c.args.lines.now in
    let i = c.loop-i.i in
    let e = c.loop-i.ending in
    let dead = c.loop-i.passing.dead.items in
    let live = c.loop-i.passing.live.items in
    let d1 = c.pass_line.new.behind.dead.items in
    let l1 = c.pass_line.new.behind.live.items in
    let cut = c.in_ok-cut.cut in
    let pos : 0 < i = c.loop-i-test.true in
    let w = c.loop-i.invariant.within in
    walked_cut c.args.cells c.args.ends now c.args.behind.now.items lines (i - 1) c.index-lines-i.result e
    c.in_ok-ending.ending dead live d1 l1 c.in_ok-after.after.items c.in_ok-here.here.items cut
    (walked_at c.args.cells c.args.ends now c.args.behind.now.items lines i e dead live pos c.loop-i.invariant)
    (omega (arith, pos, w)) c.index-lines-i.is (sym c.line_holds.ensures ∙
    c.if-line_holds.true) c.in_ok-pass_line.ensures
    (subst (λ xs. Becomes xs c.in_ok-after.after.items (through dead live)) c.deref-then-line_holds.ensures.value
    c.in_ok-after.ensures)
    (subst (λ xs. Becomes xs c.in_ok-here.here.items (through d1 l1)) c.deref-then-line_holds-2.ensures.value
    c.in_ok-here.ensures)
    c.in_ok-cut.ensures
    c.in_ok-ending.ensures.end
    (subst (λ xs. (first : Lines) →
    ended first c.in_ok-ending.ending ≡
    cut_by cut first (those_of c.args.cells xs)
    (ended (lines_of (take (e.end - (i - 1 + 1)) (drop (i - 1 + 1) lines))) e))
    c.deref-then-line_holds-3.ensures.value c.in_ok-ending.ensures.ended)

pub cut_lines-loop-i-preserved : goal.cut_lines-loop-i-preserved
cut_lines-loop-i-preserved t c =
    let lines = c.args.lines.now in
    let i = c.loop-i.i in
    let e = c.loop-i.ending in
    let dead = c.loop-i.passing.dead.items in
    let live = c.loop-i.passing.live.items in
    let pos : 0 < i = c.loop-i-test.true in
    let w = c.loop-i.invariant.within in
    walked_quiet c.args.cells c.args.ends c.args.now.now.items c.args.behind.now.items lines (i - 1)
    c.index-lines-i.result e dead live _ _
    (walked_at c.args.cells c.args.ends c.args.now.now.items c.args.behind.now.items lines i e dead live pos
    c.loop-i.invariant)
    (omega (arith, pos, w)) c.index-lines-i.is (sym c.line_holds.ensures ∙
    c.if-line_holds.false) c.in_ok-pass_line-2.ensures
