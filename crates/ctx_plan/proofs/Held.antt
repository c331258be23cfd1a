-- Which statements and functions hold a barrier.
use Rattle.std.proofs.Common.{◌≡◌, ℕ, zero, suc, ◌+◌, ◌-◌, ◌≤◌, List, [], ◌∷◌, ◌++◌, length, Option, Some, None, refl}
use Rattle.std.proofs.Common.{ap, ap₂, sym, ◌∙◌, arith}
use Rattle.std.specs.Prelude.{◌||◌}
use Rattle.std.specs.Prelude.{Bool as Test, true, false}
use Rattle.cl_model.specs.Tree.{Expression, Apply, Update, Choose, Call, Expressions, none, more, Statement, Do}
use Rattle.cl_model.specs.Tree.{Declare, Fill, Block, If, Loop, Switch, Break, Continue, Return, Barrier, Statements}
use Rattle.cl_model.specs.Tree.{empty, also, Arms, no_arm, arm, Function}
use Rattle.cl_model.specs.Calls.{CallSite, calls_in, calls_among, calls_in_optional}
use Rattle.kir.specs.Inlined.{holds_in, holds_among, holds_in_optional, holds, some_holds, arms_hold}
use Rattle.ctx_plan.specs.declared.outline.Piece.{Piece}
use Rattle.ctx_plan.specs.declared.outline.Piece.TheVariants as piece
use Rattle.ctx_plan.specs.Points.{calls_onto, points_onto, all_onto, arms_onto, point_holds, points_hold}
use Rattle.ctx_plan.specs.Sharing.{bodies_after, holding_after}

or_assoc : (a b c : Test) → ((a || b) || c) ≡ (a || (b || c))
or_assoc true b c = refl
or_assoc false b c = refl

or_none : (b : Test) → (b || false) ≡ b
or_none true = refl
or_none false = refl

module _ (inside : ℕ → Test) where
  -- one of the calls is of a function that holds a barrier
  abbrev calls_hold : List CallSite → Test
  calls_hold [] = false
  calls_hold (c ∷ calls) = inside c.function || calls_hold calls

  calls_hold-append : (xs ys : List CallSite) → calls_hold (xs ++ ys) ≡ (calls_hold xs || calls_hold ys)
  calls_hold-append [] ys = refl
  calls_hold-append (c ∷ xs) ys = ap (λ b. inside c.function || b) (calls_hold-append xs ys) ∙
      sym (or_assoc (inside c.function) (calls_hold xs) (calls_hold ys))

  mutual
    in_expression : (e : Expression) → calls_hold (calls_in e) ≡ holds_in inside e
    in_expression (Apply action operands) = among operands
    in_expression (Update site element root op of back old index value) =
        calls_hold-append (calls_in index) (calls_in value) ∙
        ap₂ (λ a b. a || b) (in_expression index) (in_expression value)
    in_expression (Choose site test chosen other) =
        calls_hold-append (calls_in test) (calls_in chosen ++ calls_in other)
        ∙ ap₂ (λ a b. a || b) (in_expression test) (calls_hold-append (calls_in chosen) (calls_in other) ∙
        ap₂ (λ a b. a || b) (in_expression chosen) (in_expression other))
    in_expression (Call site function roots arguments) =
        calls_hold-append (calls_among arguments) (record { site = site; function = function } ∷ []) ∙
        ap₂ (λ a b. a || b) (among arguments) (or_none (inside function))

    among : (es : Expressions) → calls_hold (calls_among es) ≡ holds_among inside es
    among none = refl
    among (more e rest) =
        calls_hold-append (calls_in e) (calls_among rest) ∙ ap₂ (λ a b. a || b) (in_expression e) (among rest)

  in_optional : (e : Option Expression) → calls_hold (calls_in_optional e) ≡ holds_in_optional inside e
  in_optional None = refl
  in_optional (Some e) = in_expression e

  points_hold-append : (xs ys : List Piece) →
      points_hold inside (xs ++ ys) ≡ (points_hold inside xs || points_hold inside ys)
  points_hold-append [] ys = refl
  points_hold-append (p ∷ xs) ys = ap (λ b. point_holds inside p || b) (points_hold-append xs ys) ∙
      sym (or_assoc (point_holds inside p) (points_hold inside xs) (points_hold inside ys))

  calls_behind : (calls : List CallSite) (ps : List Piece) →
      points_hold inside (calls_onto calls ps) ≡ (points_hold inside ps || calls_hold calls)
  calls_behind [] ps = sym (or_none (points_hold inside ps))
  calls_behind (c ∷ calls) ps =
      calls_behind calls (ps ++ piece.Calls c.site c.function ∷ [])
      ∙ (ap (λ b. b || calls_hold calls) (points_hold-append ps (piece.Calls c.site c.function ∷ []) ∙
      ap (λ b. points_hold inside ps || b) (or_none (inside c.function)))
      ∙ or_assoc (points_hold inside ps) (inside c.function) (calls_hold calls))

  -- points behind others, twice
  twice : (p a b : Test) (x y : List Piece) → points_hold inside x ≡ (p || a) →
      points_hold inside y ≡ (points_hold inside x || b) → points_hold inside y ≡ (p || (a || b))
  twice p a b x y ex ey = ey ∙ (ap (λ q. q || b) ex ∙ or_assoc p a b)

  expression_behind : (e : Expression) (ps : List Piece) → points_hold inside (calls_onto (calls_in e) ps) ≡
      (points_hold inside ps || holds_in inside e)
  expression_behind e ps = calls_behind (calls_in e) ps ∙ ap (λ b. points_hold inside ps || b) (in_expression e)

  optional_behind : (e : Option Expression) (ps : List Piece) →
      points_hold inside (calls_onto (calls_in_optional e) ps) ≡ (points_hold inside ps || holds_in_optional inside e)
  optional_behind e ps = calls_behind (calls_in_optional e) ps ∙ ap (λ b. points_hold inside ps || b) (in_optional e)

  mutual
    pub statement_behind : (s : Statement) (ps : List Piece) →
        points_hold inside (points_onto s ps) ≡ (points_hold inside ps || holds inside s)
    statement_behind (Do e) ps = expression_behind e ps
    statement_behind (Declare x value) ps = optional_behind value ps
    statement_behind (Fill site array values) ps =
        calls_behind (calls_among values) ps ∙ ap (λ b. points_hold inside ps || b) (among values)
    statement_behind (Block list) ps = statements_behind list ps
    statement_behind (If site test chosen other) ps =
        twice (points_hold inside ps) (holds_in inside test) (some_holds inside chosen || some_holds inside other)
        (calls_onto (calls_in test) ps) (points_onto (If site test chosen other) ps) (expression_behind test ps)
        (twice (points_hold inside (calls_onto (calls_in test) ps)) (some_holds inside chosen)
        (some_holds inside other) (all_onto chosen (calls_onto (calls_in test) ps))
        (points_onto (If site test chosen other) ps)
        (statements_behind chosen (calls_onto (calls_in test) ps))
        (statements_behind other (all_onto chosen (calls_onto (calls_in test) ps))))
    statement_behind (Loop site test_first test step body) ps =
        twice (points_hold inside ps) (holds_in_optional inside test) (holds_in_optional inside step ||
        holds inside body) (calls_onto (calls_in_optional test) ps)
        (points_onto (Loop site test_first test step body) ps) (optional_behind test ps)
        (twice (points_hold inside (calls_onto (calls_in_optional test) ps)) (holds_in_optional inside step)
        (holds inside body) (calls_onto (calls_in_optional step) (calls_onto (calls_in_optional test) ps))
        (points_onto (Loop site test_first test step body) ps)
        (optional_behind step (calls_onto (calls_in_optional test) ps))
        (statement_behind body (calls_onto (calls_in_optional step) (calls_onto (calls_in_optional test) ps))))
    statement_behind (Switch site value arms) ps =
        twice (points_hold inside ps) (holds_in inside value) (arms_hold inside arms) (calls_onto (calls_in value) ps)
        (points_onto (Switch site value arms) ps) (expression_behind value ps)
        (arms_behind arms (calls_onto (calls_in value) ps))
    statement_behind (Break site) ps = sym (or_none (points_hold inside ps))
    statement_behind (Continue site) ps = sym (or_none (points_hold inside ps))
    statement_behind (Return site value) ps = optional_behind value ps
    statement_behind (Barrier site) ps = points_hold-append ps (piece.Cut ∷ [])

    pub statements_behind : (list : Statements) (ps : List Piece) →
        points_hold inside (all_onto list ps) ≡ (points_hold inside ps || some_holds inside list)
    statements_behind empty ps = sym (or_none (points_hold inside ps))
    statements_behind (also s rest) ps =
        twice (points_hold inside ps) (holds inside s) (some_holds inside rest) (points_onto s ps)
        (all_onto rest (points_onto s ps)) (statement_behind s ps) (statements_behind rest (points_onto s ps))

    pub arms_behind : (arms : Arms) (ps : List Piece) →
        points_hold inside (arms_onto arms ps) ≡ (points_hold inside ps || arms_hold inside arms)
    arms_behind no_arm ps = sym (or_none (points_hold inside ps))
    arms_behind (arm labels other body rest) ps =
        twice (points_hold inside ps) (some_holds inside body) (arms_hold inside rest) (all_onto body ps)
        (arms_onto rest (all_onto body ps)) (statements_behind body ps) (arms_behind rest (all_onto body ps))

-- ---- rounds

-- where a round changes nothing, none behind it does
pub holding_stays : (fs : List Function) (k d : ℕ) → holding_after fs (suc d) ≡ holding_after fs d →
    holding_after fs (k + d) ≡ holding_after fs d
holding_stays fs zero d e = ap (holding_after fs) (let q : zero + d ≡ d = omega arith in q)
holding_stays fs (suc k) d e =
    let q : suc k + d ≡ suc (k + d) = omega arith in
    ap (holding_after fs) q ∙ (ap (λ v. bodies_after v fs) (holding_stays fs k d e) ∙ e)

pub holding_found : (fs : List Function) (d : ℕ) (inside next : List Test) → d ≤ length fs →
    inside ≡ holding_after fs d → next ≡ bodies_after inside fs → next ≡ inside → next ≡ holding_after fs (length fs)
holding_found fs d inside next le i n same =
    let q : length fs ≡ length fs - d + d = omega arith in
    let still : holding_after fs (suc d) ≡ holding_after fs d =
    ap (λ v. bodies_after v fs) (sym i) ∙ (sym n ∙ (same ∙ i)) in
    same ∙ (i ∙ (sym (holding_stays fs (length fs - d) d still) ∙ sym (ap (holding_after fs) q)))
