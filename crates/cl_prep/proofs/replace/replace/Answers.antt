use Rattle.std.proofs.Common.{List, Bool, false, true, ◌<◌, ◌∷◌, ◌≡◌, ◌≤◌, refl, subst, sym, ap, ◌∙◌, arith, get_or}
use Rattle.std.proofs.Common.{length}
use Rattle.cl_token.specs.Lexeme.{lexemes_of}
use Rattle.cl_prep.specs.Expands.{token_limit}
use Rattle.cl_prep.specs.Table.{names_of}
use Rattle.cl_prep.specs.Frames.{IsNotFree, Exceeds}
use Rattle.cl_prep.proofs.Replacements.{loop_start, loop_in, loop_over, loop_give, loop_full, loop_out, loop_end}
use Rattle.cl_prep.proofs.Replacements.{loop_marks, over_first, stops}
use Rattle.cl_prep.proofs.replace.replace.Goals as goal

pub returns-then-count-ge-REPLACEMENT_LIMIT-clause-err : goal.returns-then-count-ge-REPLACEMENT_LIMIT-clause-err
returns-then-count-ge-REPLACEMENT_LIMIT-clause-err c =
    over_first c.args.names.now.entries c.args.token.now (lexemes_of c.args.frame.left.now) c.args.out.now.items
    c.args.count c.if-count-ge-REPLACEMENT_LIMIT.true

pub loop-top-init : goal.loop-top-init
loop-top-init c =
    loop_start c.args.names.now.entries c.args.token.now (lexemes_of c.args.frame.left.now) c.args.out.now.items
    c.args.count c.args.frame c.enter.new.frames.items c.new-frames.result.items c.args.marks.now.items
    c.enter.new.marks.items c.requires.number c.requires.name refl c.requires.clear c.requires.enough
    c.requires.few c.if-count-ge-REPLACEMENT_LIMIT.false c.in_ok-enter.ensures.frames c.new-frames.ensures.items
    c.in_ok-enter.ensures.marks

pub loop-top-preserved-in_default-split_first : goal.loop-top-preserved-in_default-split_first
loop-top-preserved-in_default-split_first c =
    loop_out c.args.names.now.entries c.args.token.now (lexemes_of c.args.frame.left.now) c.args.out.now.items
    c.args.count c.loop-top.frames.items c.in-Some.top c.pop_front.new.self.items c.loop-top.marks.items
    c.loop-top.out.items c.loop-top.replaced c.loop-top.invariant c.in-Some.ensures.items
    c.in_default-split_first.ensures.cases

pub returns-then-replaced-ge-REPLACEMENT_LIMIT-clause-err : goal.returns-then-replaced-ge-REPLACEMENT_LIMIT-clause-err
returns-then-replaced-ge-REPLACEMENT_LIMIT-clause-err c =
    loop_over c.args.names.now.entries c.args.token.now (lexemes_of c.args.frame.left.now) c.args.out.now.items
    c.args.count c.loop-top.frames.items c.in-Some.top c.in-Some-free_frame_of.inner
    c.in-Some-split_first.next.now c.in-Some-split_first.left c.pop_front.new.self.items c.loop-top.marks.items
    c.loop-top.out.items c.loop-top.replaced c.loop-top.invariant c.in-Some.ensures.items
    c.in-Some-split_first.ensures.cases.0 (record {
      replaced_by = c.in-Some-free_frame_of.ensures.some;
      name = c.in-Some-free_frame_of.ensures.name;
      number = c.in-Some-free_frame_of.ensures.number;
      unmarked = ap (λ (l : List Bool). get_or l c.in-Some-free_frame_of.inner.number false)
          (sym c.as_slice.ensures.value) ∙ c.in-Some-free_frame_of.ensures.free;
    })
    c.if-replaced-ge-REPLACEMENT_LIMIT.true

pub loop-top-preserved-in-Continue-branch-3 : goal.loop-top-preserved-in-Continue-branch-3
loop-top-preserved-in-Continue-branch-3 c =
    loop_in c.args.names.now.entries c.args.token.now (lexemes_of c.args.frame.left.now) c.args.out.now.items
    c.args.count c.loop-top.frames.items c.enter-in-Some-free_frame_of.new.frames.items c.in-Some.top
    c.in-Some-free_frame_of.inner c.in-Some-split_first.next.now c.in-Some-split_first.left
    c.pop_front.new.self.items c.loop-top.marks.items c.enter-in-Some-free_frame_of.new.marks.items
    c.loop-top.out.items c.loop-top.replaced c.loop-top.invariant c.in-Some.ensures.items
    c.in-Some-split_first.ensures.cases.0 (record {
      replaced_by = c.in-Some-free_frame_of.ensures.some;
      name = c.in-Some-free_frame_of.ensures.name;
      number = c.in-Some-free_frame_of.ensures.number;
      unmarked = ap (λ (l : List Bool). get_or l c.in-Some-free_frame_of.inner.number false)
          (sym c.as_slice.ensures.value) ∙ c.in-Some-free_frame_of.ensures.free;
    })
    c.if-replaced-ge-REPLACEMENT_LIMIT.false
    (c.in_ok-enter-in-Some-free_frame_of.ensures.frames ∙
    ap (λ l. c.in-Some-free_frame_of.inner ∷ l) c.in_ok-put_back.ensures.frames)
    c.in_ok-enter-in-Some-free_frame_of.ensures.marks

pub returns-in-Err-clause-err : goal.returns-in-Err-clause-err
returns-in-Err-clause-err c =
    stops c.in-Err.stop (token_limit ≤ length c.loop-top.out.items)
    (Exceeds (names_of c.args.names.now) c.args.token.now (lexemes_of c.args.frame.left.now) c.args.out.now.items
    c.args.count)
    (λ over. loop_full c.args.names.now.entries c.args.token.now (lexemes_of c.args.frame.left.now)
    c.args.out.now.items c.args.count c.loop-top.frames.items c.in-Some.top c.in-Some-split_first.next.now
    c.in-Some-split_first.left c.pop_front.new.self.items c.loop-top.marks.items c.loop-top.out.items
    c.loop-top.replaced c.loop-top.invariant c.in-Some.ensures.items c.in-Some-split_first.ensures.cases.0
    (subst (λ (l : List Bool). IsNotFree c.args.names.now.entries (names_of c.args.names.now) l
    c.in-Some-split_first.next.now) c.as_slice.ensures.value c.in-None.ensures.none) over)
    c.in-Err.ensures.err

pub loop-top-preserved : goal.loop-top-preserved
loop-top-preserved c =
    loop_give c.args.names.now.entries c.args.token.now (lexemes_of c.args.frame.left.now) c.args.out.now.items
    c.args.count c.loop-top.frames.items c.put_back.new.frames.items c.in-Some.top c.in-Some-split_first.next.now
    c.in-Some-split_first.left c.pop_front.new.self.items c.loop-top.marks.items c.loop-top.out.items
    c.give.new.out.items c.loop-top.replaced c.loop-top.invariant c.in-Some.ensures.items
    c.in-Some-split_first.ensures.cases.0
    (subst (λ (l : List Bool). IsNotFree c.args.names.now.entries (names_of c.args.names.now) l
    c.in-Some-split_first.next.now) c.as_slice.ensures.value c.in-None.ensures.none)
    c.in_ok-put_back.ensures.frames c.in_default-give.ensures.ok c.in_default-give.ensures.few

-- no frame is left
none_left : (c : goal.After-drop-frames-2) → length c.pop_front.new.self.items ≡ 0
none_left c =
    let some : 0 < c.loop-top.frames.len → false ≡ true = c.in_default.ensures.variant.1 in
    let none : 0 < c.loop-top.frames.len → ⊥ = λ h. let e = some h in cc in
    omega (arith, none, c.in_default.ensures.len, c.pop_front.new.self.ok)

pub returns-clause-ok : goal.returns-clause-ok
returns-clause-ok c =
    loop_end c.args.names.now.entries c.args.token.now (lexemes_of c.args.frame.left.now) c.args.out.now.items
    c.args.count c.loop-top.frames.items c.pop_front.new.self.items c.loop-top.marks.items c.loop-top.out.items
    c.loop-top.replaced c.loop-top.invariant c.in_default.ensures.items (none_left c)

pub returns-clause-clear : goal.returns-clause-clear
returns-clause-clear c =
    loop_marks c.args.names.now.entries c.args.token.now (lexemes_of c.args.frame.left.now) c.args.out.now.items
    c.args.count c.loop-top.frames.items c.pop_front.new.self.items c.loop-top.marks.items c.loop-top.out.items
    c.loop-top.replaced c.loop-top.invariant c.in_default.ensures.items (none_left c)
