-- A cut stands in the text of a function exactly where the function holds a barrier.
use Rattle.std.proofs.Common.{◌≡◌, ℕ, zero, suc, ◌≤◌, List, [], ◌∷◌, ◌++◌, Option, Some, None, length, refl, sym, ap}
use Rattle.std.proofs.Common.{ap₂, ◌∙◌}
use Rattle.std.specs.Prelude.{Bool as Test, true, false}
use Rattle.std.specs.Prelude.{◌||◌}
use Rattle.cl_model.specs.Tree.{Expression, Apply, Update, Choose, Call, Expressions, none, more, Statement, Do}
use Rattle.cl_model.specs.Tree.{Declare, Fill, Block, If, Loop, Switch, Break, Continue, Return, Barrier, Statements}
use Rattle.cl_model.specs.Tree.{empty, also, Arms, no_arm, arm, Function, Program}
use Rattle.cl_model.specs.Calls.{CallSite, calls_in, calls_among, calls_in_optional, function_at}
use Rattle.cl_model.specs.Valid.{CallsEnd}
use Rattle.kir.specs.Inlined as kir
use Rattle.kir.specs.Inlined.{holds_in, holds_among, holds_in_optional, holds, some_holds, arms_hold, body_holds}
use Rattle.kir.specs.Inlined.{function_text}
use Rattle.ctx_plan.specs.Outline.{Outline, NoPiece, DeclaresThen, CutThen, CallsThen, BlockThen, cut_then}
use Rattle.ctx_plan.specs.Outline.{calls_then, outline_then, outlines_then, outlines_of_arms, parameters_then}
use Rattle.ctx_plan.specs.Outline.{function_outline}
use Rattle.ctx_plan.specs.Points.{entry}
use Rattle.ctx_plan.specs.Sharing.{has_cut, holding_of}
use Rattle.ctx_plan_correct.specs.Crossing.{EachCall}
use Rattle.ctx_plan_correct.proofs.Outlined.{text_of, inlining, function_outlined}
use Rattle.ctx_plan_correct.proofs.Holding.{holds_at, holding_found}

-- ---- tests

or_assoc : (a b c : Test) → ((a || b) || c) ≡ (a || (b || c))
or_assoc true b c = refl
or_assoc false b c = refl

or_none : (b : Test) → (b || false) ≡ b
or_none true = refl
or_none false = refl

-- two parts before others
two : (a b c x y : Test) → x ≡ (a || y) → y ≡ (b || c) → x ≡ ((a || b) || c)
two a b c x y e f = e ∙ (ap (λ z. a || z) f ∙ sym (or_assoc a b c))

-- ---- outlines

module _ (inside : ℕ → Test) where
  abbrev calls_hold : List CallSite → Test
  calls_hold [] = false
  calls_hold (c ∷ calls) = inside c.function || calls_hold calls

  hold_append : (xs ys : List CallSite) → calls_hold (xs ++ ys) ≡ (calls_hold xs || calls_hold ys)
  hold_append [] ys = refl
  hold_append (c ∷ xs) ys = ap (λ b. inside c.function || b) (hold_append xs ys) ∙
      sym (or_assoc (inside c.function) (calls_hold xs) (calls_hold ys))

  mutual
    hold_in : (e : Expression) → calls_hold (calls_in e) ≡ holds_in inside e
    hold_in (Apply action operands) = hold_among operands
    hold_in (Update site element root op of back old index value) =
        hold_append (calls_in index) (calls_in value) ∙ ap₂ (λ a b. a || b) (hold_in index) (hold_in value)
    hold_in (Choose site test chosen other) =
        hold_append (calls_in test) (calls_in chosen ++ calls_in other) ∙
        ap₂ (λ a b. a || b) (hold_in test) (hold_append (calls_in chosen) (calls_in other) ∙
        ap₂ (λ a b. a || b) (hold_in chosen) (hold_in other))
    hold_in (Call site function roots arguments) =
        hold_append (calls_among arguments) (record { site = site; function = function } ∷ []) ∙
        ap₂ (λ a b. a || b) (hold_among arguments) (or_none (inside function))

    hold_among : (es : Expressions) → calls_hold (calls_among es) ≡ holds_among inside es
    hold_among none = refl
    hold_among (more e rest) =
        hold_append (calls_in e) (calls_among rest) ∙ ap₂ (λ a b. a || b) (hold_in e) (hold_among rest)

  hold_optional : (e : Option Expression) → calls_hold (calls_in_optional e) ≡ holds_in_optional inside e
  hold_optional None = refl
  hold_optional (Some e) = hold_in e

  calls_cut : (calls : List CallSite) (o : Outline) →
      has_cut inside (calls_then calls o) ≡ (calls_hold calls || has_cut inside o)
  calls_cut [] o = refl
  calls_cut (c ∷ calls) o = ap (λ b. inside c.function || b) (calls_cut calls o) ∙
      sym (or_assoc (inside c.function) (calls_hold calls) (has_cut inside o))

  in_cut : (e : Expression) (o : Outline) →
      has_cut inside (calls_then (calls_in e) o) ≡ (holds_in inside e || has_cut inside o)
  in_cut e o = calls_cut (calls_in e) o ∙ ap (λ b. b || has_cut inside o) (hold_in e)

  optional_cut : (e : Option Expression) (o : Outline) → has_cut inside (calls_then (calls_in_optional e) o) ≡
      (holds_in_optional inside e || has_cut inside o)
  optional_cut e o = calls_cut (calls_in_optional e) o ∙ ap (λ b. b || has_cut inside o) (hold_optional e)

  -- with a cut in front where it is held, one is there; where it is not held, there are none, and nothing holds one
  guarded : (h : Test) (body : Outline → Outline) (o : Outline) →
      (h ≡ false → has_cut inside (body o) ≡ (h || has_cut inside o)) → (b : Test) → b ≡ h → (x : Outline) →
      (h ≡ false → x ≡ body o) → has_cut inside (cut_then b x) ≡ (h || has_cut inside o)
  guarded true body o f true e x s = refl
  guarded true body o f false e x s = absurd (cc)
  guarded false body o f true e x s = absurd (cc)
  guarded false body o f false e x s = ap (has_cut inside) (s refl) ∙ f refl

  mutual
    of_cut : (s : Statement) (o : Outline) →
        has_cut inside (outline_then inside s o) ≡ (holds inside s || has_cut inside o)
    of_cut (Do e) o = in_cut e o
    of_cut (Declare x value) o = optional_cut value (DeclaresThen x o)
    of_cut (Fill site array values) o =
        calls_cut (calls_among values) o ∙ ap (λ b. b || has_cut inside o) (hold_among values)
    of_cut (Block list) o = ap (λ b. b || has_cut inside o) (all_cut list NoPiece ∙ or_none (some_holds inside list))
    of_cut (If site test chosen other) o =
        guarded (holds inside (If site test chosen other))
        (λ r. calls_then (calls_in test) (outlines_then inside chosen (outlines_then inside other r))) o
        (λ e. in_cut test (outlines_then inside chosen (outlines_then inside other o))
        ∙ (ap (λ b. holds_in inside test || b) (two (some_holds inside chosen) (some_holds inside other)
        (has_cut inside o) _ _ (all_cut chosen (outlines_then inside other o)) (all_cut other o))
        ∙ sym (or_assoc (holds_in inside test) (some_holds inside chosen || some_holds inside other)
        (has_cut inside o))))
        (holds inside (If site test chosen other)) refl _
        (λ e. ap (λ b. calls_then (calls_in test)
        (cut_then b (outlines_then inside chosen (cut_then b (outlines_then inside other (cut_then b o)))))) e)
    of_cut (Loop site true test step body) o =
        guarded (holds inside (Loop site true test step body))
        (λ r. calls_then (calls_in_optional test)
        (calls_then (calls_in_optional step) (outline_then inside body r))) o
        (λ e. optional_cut test (calls_then (calls_in_optional step) (outline_then inside body o))
        ∙ (ap (λ b. holds_in_optional inside test || b) (two (holds_in_optional inside step) (holds inside body)
        (has_cut inside o) _ _ (optional_cut step (outline_then inside body o)) (of_cut body o))
        ∙ sym (or_assoc (holds_in_optional inside test) (holds_in_optional inside step || holds inside body)
        (has_cut inside o))))
        (holds inside (Loop site true test step body)) refl _
        (λ e. ap (λ b. calls_then (calls_in_optional test)
        (cut_then b (calls_then (calls_in_optional step)
        (cut_then b (outline_then inside body (cut_then b o)))))) e)
    of_cut (Loop site false test step body) o =
        guarded (holds inside (Loop site false test step body))
        (λ r. outline_then inside body
        (calls_then (calls_in_optional step) (calls_then (calls_in_optional test) r))) o
        (λ e. of_cut body (calls_then (calls_in_optional step) (calls_then (calls_in_optional test) o))
        ∙ (ap (λ b. holds inside body || b) (two (holds_in_optional inside step) (holds_in_optional inside test)
        (has_cut inside o) _ _ (optional_cut step (calls_then (calls_in_optional test) o))
        (optional_cut test o))
        ∙ turned (holds inside body) (holds_in_optional inside step) (holds_in_optional inside test)
        (has_cut inside o)))
        (holds inside (Loop site false test step body)) refl _
        (λ e. ap (λ b. outline_then inside body
        (cut_then b (calls_then (calls_in_optional step)
        (cut_then b (calls_then (calls_in_optional test) (cut_then b o)))))) e)
      where
        turned : (b s t c : Test) → (b || ((s || t) || c)) ≡ ((t || (s || b)) || c)
        turned true true true c = refl
        turned true true false c = refl
        turned true false true c = refl
        turned true false false c = refl
        turned false true true c = refl
        turned false true false c = refl
        turned false false true c = refl
        turned false false false c = refl
    of_cut (Switch site value arms) o =
        guarded (holds inside (Switch site value arms))
        (λ r. calls_then (calls_in value) (outlines_of_arms inside arms r)) o
        (λ e. two (holds_in inside value) (arms_hold inside arms) (has_cut inside o) _ _
        (in_cut value (outlines_of_arms inside arms o)) (arms_cut arms o))
        (holds inside (Switch site value arms)) refl _
        (λ e. ap (λ b. calls_then (calls_in value) (cut_then b (outlines_of_arms inside arms (cut_then b o)))) e)
    of_cut (Break site) o = refl
    of_cut (Continue site) o = refl
    of_cut (Return site value) o = optional_cut value o
    of_cut (Barrier site) o = refl

    all_cut : (list : Statements) (o : Outline) →
        has_cut inside (outlines_then inside list o) ≡ (some_holds inside list || has_cut inside o)
    all_cut empty o = refl
    all_cut (also s list) o = two (holds inside s) (some_holds inside list) (has_cut inside o) _ _
        (of_cut s (outlines_then inside list o)) (all_cut list o)

    arms_cut : (arms : Arms) (o : Outline) → has_cut inside (outlines_of_arms inside arms o) ≡
        (arms_hold inside arms || has_cut inside o)
    arms_cut no_arm o = refl
    arms_cut (arm labels other body arms) o =
        two (some_holds inside body) (arms_hold inside arms) (has_cut inside o) _ _
        (all_cut body (outlines_of_arms inside arms o)) (arms_cut arms o)

  parameters_cut : (first n : ℕ) (o : Outline) → has_cut inside (parameters_then first n o) ≡ has_cut inside o
  parameters_cut first zero o = refl
  parameters_cut first (suc n) o = parameters_cut (suc first) n o

  pub function_cut : (f : Function) → has_cut inside (function_outline inside f) ≡ some_holds inside f.body
  function_cut f = parameters_cut 0 f.parameters (outlines_then inside f.body NoPiece) ∙
      (all_cut f.body NoPiece ∙ or_none (some_holds inside f.body))

-- ---- texts

-- the text of an outline has a cut where the outline has one, if that is so of the functions that it calls
text_cut : (program : Program) (d : ℕ) (calls : List ℕ) (f : ℕ) (inside : ℕ → Test) (o : Outline) →
    EachCall (λ site g. (path : List ℕ) → kir.has_cut (function_text program d path g) ≡ inside g) o →
    kir.has_cut (text_of (inlining program d calls f) o) ≡ has_cut inside o
text_cut program d calls f inside NoPiece h = refl
text_cut program d calls f inside (DeclaresThen x rest) h = text_cut program d calls f inside rest h
text_cut program d calls f inside (CutThen rest) h = refl
text_cut program d calls f inside (CallsThen site g rest) h =
    ap₂ (λ a b. a || b) (h.0 (calls ++ site ∷ [])) (text_cut program d calls f inside rest h.1)
text_cut program d calls f inside (BlockThen inner rest) h =
    ap₂ (λ a b. a || b) (text_cut program d calls f inside inner h.0) (text_cut program d calls f inside rest h.1)

every_call : (P : ℕ → ℕ → Type 0) → ((site g : ℕ) → P site g) → (o : Outline) → EachCall P o
every_call P p NoPiece = tt
every_call P p (DeclaresThen x rest) = every_call P p rest
every_call P p (CutThen rest) = every_call P p rest
every_call P p (CallsThen site g rest) = (p site g, every_call P p rest)
every_call P p (BlockThen inner rest) = (every_call P p inner, every_call P p rest)

pub function_cuts : (program : Program) (d : ℕ) (calls : List ℕ) (f : ℕ) →
    kir.has_cut (function_text program d calls f) ≡ body_holds program d f
function_cuts program zero calls f = refl
function_cuts program (suc d) calls f =
    ap kir.has_cut (function_outlined program d calls f)
    ∙ (text_cut program d calls f (body_holds program d)
    (function_outline (body_holds program d) (function_at program f))
    (every_call _ (λ site g path. function_cuts program d path g)
    (function_outline (body_holds program d) (function_at program f)))
    ∙ function_cut (body_holds program d) (function_at program f))

-- with what the plan says of functions whose calls end
pub outline_cuts : (program : Program) (d : ℕ) (calls : List ℕ) (f : ℕ) (o : Outline) → d ≤ length program.functions →
    EachCall (λ site g. CallsEnd program d g) o → kir.has_cut (text_of (inlining program d calls f) o) ≡
    has_cut (entry (holding_of program.functions)) o
outline_cuts program d calls f o le ends =
    text_cut program d calls f (entry (holding_of program.functions)) o (each o ends)
  where
    each : (o : Outline) → EachCall (λ site g. CallsEnd program d g) o →
        EachCall (λ site g. (path : List ℕ) →
        kir.has_cut (function_text program d path g) ≡ entry (holding_of program.functions) g) o
    each NoPiece h = tt
    each (DeclaresThen x rest) h = each rest h
    each (CutThen rest) h = each rest h
    each (CallsThen site g rest) h = (
      λ path. function_cuts program d path g ∙ (holds_at program d (length program.functions) g h.0 le ∙
          sym (holding_found program g)),
      each rest h.1,
    )
    each (BlockThen inner rest) h = (each inner h.0, each rest h.1)
