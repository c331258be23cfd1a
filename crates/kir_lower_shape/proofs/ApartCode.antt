-- The points of the barrier lines of a lowered kernel are told apart by their marks.
use Rattle.std.proofs.Common.{◌≡◌, ℕ, suc, ◌+◌, ◌≤◌, pos, List, Option, Some, None, refl, sym, ap, ◌∙◌, subst, arith}
use Rattle.std.proofs.Common.{◌⊎◌, inl, inr, ⊎_elim, true, false, if◌then◌else◌}
use Rattle.std.proofs.Common.{Bool as Test}
use Rattle.std.specs.Prelude.{nat_eq, ◌&&◌}
use Rattle.std.proofs.lemmas.Bool.{eq-eqb}
use Rattle.cl_model.specs.declared.program.Root.{Root}
use Rattle.cl_model.specs.Tree.{Expression, Apply, Update, Choose, Call, Expressions, none, more, Statement, Do}
use Rattle.cl_model.specs.Tree.{Declare, Fill, Block, If, Loop, Switch, Break, Continue, Return, Barrier, Statements}
use Rattle.cl_model.specs.Tree.{empty, also, Arms, no_arm, arm, Function}
use Rattle.cl_model.specs.Task.{Leg, Operand, Own, Tested, Chosen, Other, Nth, Turn, Body, Step, Arm, Into}
use Rattle.kir.specs.declared.line.Atom.{Atom}
use Rattle.kir.specs.declared.line.Atom.TheVariants.{Cell as CellAtom}
use Rattle.kir.specs.Tree.{Lines, NoLine, SetThen, IfThen, ClearThen, joined_to, OfValue, Copy}
use Rattle.kir_lower.specs.declared.places.Value.{Value}
use Rattle.kir_lower.specs.Made.{Made, Instance, next_cell, with_cell, int, root_in, argument_roots, element_at}
use Rattle.kir_lower.specs.Ways.{way_out, way_out_of_all, way_out_of_arms, declares}
use Rattle.kir_lower.specs.Actions.{loaded, stored, changed, action_code, initial_lines, set_to, opened, is_none}
use Rattle.kir_lower.specs.Actions.{guarded_before, settled, outward, round_code, selected, fallen_code}
use Rattle.kir_lower.specs.Code.{Calls, expression_code, operands_code, optional_code, Guarded, before_rest}
use Rattle.kir_lower.specs.Code.{is_guarded, in_order, set_exit, entry_code, around_arm, statement_code, list_code}
use Rattle.kir_lower.specs.Code.{arms_code, result_code, body_code}
use Rattle.kir_lower_shape.specs.Marks.{Way, further, in_turn, Marks, NoMark, MarkThen, FormThen, marks_then}
use Rattle.kir_lower_shape.specs.Marks.{all_marked, Shaped, no_line, set_line, if_line}
use Rattle.kir_lower_shape.specs.CodeMarks.{CallMarks, finish_way, expression_marks, operands_marks, optional_marks}
use Rattle.kir_lower_shape.specs.CodeMarks.{GuardedMarks, guarded_marks, marks_before_rest, marks_in_order, round_marks}
use Rattle.kir_lower_shape.specs.CodeMarks.{statement_marks, list_marks, arms_marks, body_marks}
use Rattle.kir_lower_shape.specs.BarrierPoints.{IsFair, AreTold, IsTold}
use Rattle.kir_lower_shape.proofs.Joined.{join_assoc}
use Rattle.kir_lower_shape.proofs.Quiet.{true_false}
use Rattle.kir_lower_shape.proofs.Cutless.{action_cutless, initial_cutless, opened_cutless, outward_cutless}
use Rattle.kir_lower_shape.proofs.Cutless.{selected_cutless, fallen_cutless, result_cutless}
use Rattle.kir_lower_shape.proofs.Shapes.{shaped_all, expression_shaped, operands_shaped, optional_shaped}
use Rattle.kir_lower_shape.proofs.Shapes.{statement_shaped, list_shaped, arms_shaped, in_order_shaped, round_shaped}
use Rattle.kir_lower_shape.proofs.Apart.{told_cutless, fair_further, as_part, as_whole, told_more, told_then}
use Rattle.kir_lower_shape.proofs.ApartParts.{turned, fair_turned, fair_in_turn, as_turn, then_cutless}
use Rattle.kir_lower_shape.proofs.ApartParts.{cutless_then_told, told_if, told_barrier, IsTurn, told_loop}

-- ---- legs

abbrev tag : Leg → ℕ
tag (Operand n) = 0
tag (Own n) = 1
tag Tested = 2
tag Chosen = 3
tag Other = 4
tag (Nth n) = 5
tag (Turn n) = 6
tag Body = 7
tag Step = 8
tag (Arm n) = 9
tag Into = 10

abbrev number : Leg → ℕ
number (Operand n) = n
number (Own n) = n
number Tested = 0
number Chosen = 0
number Other = 0
number (Nth n) = n
number (Turn n) = n
number Body = 0
number Step = 0
number (Arm n) = n
number Into = 0

unequal : (m n : ℕ) → nat_eq m n ≡ false → m ≡ n → ⊥
unequal m n e k = true_false (sym (eq-eqb m n k) ∙ e)

differ : (a b leg : Leg) → nat_eq (tag a) (tag b) ≡ false → a ≡ leg → b ≡ leg → ⊥
differ a b leg e p q = unequal (tag a) (tag b) e (ap tag (p ∙ sym q))

-- operands, statements and arms from one on
abbrev pub OperandFrom : ℕ → Leg → Type 0
OperandFrom k leg = (j : ℕ) × (k ≤ j) × (Operand j ≡ leg)

abbrev pub NthFrom : ℕ → Leg → Type 0
NthFrom k leg = (j : ℕ) × (k ≤ j) × (Nth j ≡ leg)

abbrev pub ArmFrom : ℕ → Leg → Type 0
ArmFrom k leg = (j : ℕ) × (k ≤ j) × (Arm j ≡ leg)

-- of calls: what they hold stands in the function that they enter
abbrev pub CallsTold : Calls → CallMarks → Type 0
CallsTold calls marks =
    (here : Instance) (way : Way) (d : ℕ) → IsFair way d →
    (site function : ℕ) (roots : List Root) (values : List Value) (m : Made) →
    AreTold way d (λ leg. Into ≡ leg) (calls here site function roots values m).lines
    (marks here way site function roots values m)

module _ (calls : Calls) (marks : CallMarks)
    (shaped : (here : Instance) (way : Way) (site function : ℕ) (roots : List Root) (values : List Value) (m : Made) →
    Shaped (calls here site function roots values m).lines (marks here way site function roots values m))
    (call : CallsTold calls marks) (here : Instance) where
  mutual
    unfolding expression_code expression_marks

    pub expression_told : (way : Way) (d : ℕ) → IsFair way d → (e : Expression) (m : Made) →
        IsTold way d (expression_code calls here e m).lines (expression_marks calls marks here way e m)
    expression_told way d fair (Apply action operands) m =
        let co = operands_code calls here operands m in
        let last = (action_code here action co.values co.made).lines in
        as_whole way d (OperandFrom 0) _ _ (then_cutless way d fair (OperandFrom 0) co.lines last _
        (all_marked (finish_way way operands) last) (operands_shaped calls marks shaped here way 0 operands m)
        (operands_told way d fair 0 operands m) (action_cutless here action co.values co.made))
    expression_told way d fair (Update site element root op of back old index value) m =
        let ci = expression_code calls here index m in
        let cl = loaded site element (root_in here root) ci.value.atom ci.made in
        let cv = expression_code calls here value cl.made in
        let cc = changed op of back cl.value.atom cv.value.atom cv.made in
        let last = joined_to cc.lines (stored site element (root_in here root) ci.value.atom cc.value.atom) in
        as_whole way d (λ leg. (Operand 0 ≡ leg) ⊎ (Operand 1 ≡ leg)) _ _
        (told_then way d fair (λ leg. Operand 0 ≡ leg) (λ leg. Operand 1 ≡ leg) ci.lines
        (joined_to cl.lines (joined_to cv.lines last)) _ _
        (expression_shaped calls marks shaped here (further way (Operand 0)) index m)
        (as_part way d (Operand 0) _ _
        (expression_told (further way (Operand 0)) d (fair_further way d (Operand 0) fair) index m))
        (cutless_then_told way d fair (λ leg. Operand 1 ≡ leg) cl.lines (joined_to cv.lines last)
        (all_marked (further way (Own 0)) cl.lines) _ (shaped_all (further way (Own 0)) cl.lines)
        (record { is = refl })
        (then_cutless way d fair (λ leg. Operand 1 ≡ leg) cv.lines last _ (all_marked (further way (Own 1)) last)
        (expression_shaped calls marks shaped here (further way (Operand 1)) value cl.made)
        (as_part way d (Operand 1) _ _
        (expression_told (further way (Operand 1)) d (fair_further way d (Operand 1) fair) value cl.made))
        (record { is = refl })))
        (λ leg p q. unequal 0 1 refl (ap number (p ∙ sym q))))
    expression_told way d fair (Choose site test chosen other) m =
        let ct = expression_code calls here test m in
        let cy = expression_code calls here chosen ct.made in
        let cn = expression_code calls here other cy.made in
        let sy = set_to (next_cell cn.made) cy.value.atom in
        let sn = set_to (next_cell cn.made) cn.value.atom in
        as_whole way d (λ leg. (Tested ≡ leg) ⊎ ((Chosen ≡ leg) ⊎ (Other ≡ leg))) _ _
        (told_then way d fair (λ leg. Tested ≡ leg) (λ leg. (Chosen ≡ leg) ⊎ (Other ≡ leg)) ct.lines
        (IfThen site ct.value.atom (joined_to cy.lines sy) (joined_to cn.lines sn) NoLine) _ _
        (expression_shaped calls marks shaped here (further way Tested) test m)
        (as_part way d Tested _ _ (expression_told (further way Tested) d (fair_further way d Tested fair) test m))
        (told_if way d fair (λ leg. Chosen ≡ leg) (λ leg. Other ≡ leg) site ct.value.atom (joined_to cy.lines sy)
        (joined_to cn.lines sn) (further way (Own 0)) _ _
        (then_cutless way d fair (λ leg. Chosen ≡ leg) cy.lines sy _ (all_marked way sy)
        (expression_shaped calls marks shaped here (further way Chosen) chosen ct.made)
        (as_part way d Chosen _ _ (expression_told (further way Chosen) d (fair_further way d Chosen fair)
        chosen ct.made)) (record { is = refl }))
        (then_cutless way d fair (λ leg. Other ≡ leg) cn.lines sn _ (all_marked way sn)
        (expression_shaped calls marks shaped here (further way Other) other cy.made)
        (as_part way d Other _ _ (expression_told (further way Other) d (fair_further way d Other fair) other
        cy.made)) (record { is = refl }))
        (λ leg p q. differ Chosen Other leg refl p q))
        (λ leg p q. ⊎_elim (λ y. differ Tested Chosen leg refl p y) (λ n. differ Tested Other leg refl p n) q))
    expression_told way d fair (Call site function roots arguments) m =
        let ca = operands_code calls here arguments m in
        as_whole way d (λ leg. OperandFrom 0 leg ⊎ (Into ≡ leg)) _ _
        (told_then way d fair (OperandFrom 0) (λ leg. Into ≡ leg) ca.lines
        (calls here site function (argument_roots here roots) ca.values ca.made).lines _ _
        (operands_shaped calls marks shaped here way 0 arguments m)
        (operands_told way d fair 0 arguments m) (call here way d fair site function (argument_roots here roots)
        ca.values ca.made) (λ leg p q. differ (Operand p.0) Into leg refl p.2 q))

    pub operands_told : (way : Way) (d : ℕ) → IsFair way d → (k : ℕ) (list : Expressions) (m : Made) →
        AreTold way d (OperandFrom k) (operands_code calls here list m).lines
        (operands_marks calls marks here way k list m)
    operands_told way d fair k none m = told_cutless way d (OperandFrom k) NoLine NoMark (record { is = refl })
    operands_told way d fair k (more e rest) m =
        let ce = expression_code calls here e m in
        told_more way d (λ leg. (Operand k ≡ leg) ⊎ OperandFrom (suc k) leg) (OperandFrom k) _ _
        (λ leg p. ⊎_elim (λ x. (k, omega arith, x)) (λ y. (y.0, omega (arith, y.1), y.2)) p)
        (told_then way d fair (λ leg. Operand k ≡ leg) (OperandFrom (suc k)) ce.lines
        (operands_code calls here rest ce.made).lines _ _
        (expression_shaped calls marks shaped here (further way (Operand k)) e m)
        (as_part way d (Operand k) _ _
        (expression_told (further way (Operand k)) d (fair_further way d (Operand k) fair) e m))
        (operands_told way d fair (suc k) rest ce.made)
        (λ leg p q. let same : k ≡ q.0 = ap number (p ∙ sym q.2) in absurd (omega (arith, same, q.1))))

  optional_told : (way : Way) (d : ℕ) → IsFair way d → (e : Option Expression) (m : Made) →
      IsTold way d (optional_code calls here e m).lines (optional_marks calls marks here way e m)
  optional_told way d fair None m =
      as_whole way d (λ leg. ⊥) NoLine NoMark (told_cutless way d (λ leg. ⊥) NoLine NoMark (record { is = refl }))
  optional_told way d fair (Some e) m = expression_told way d fair e m

  -- ---- statements

  -- of statements in order: the lines up to a guard stand at the legs below a number, the guarded ones at those from
  -- it on; without a guard all stand together
  abbrev pub OneOf : ℕ → Option ℕ → Leg → Type 0
  OneOf k None leg = NthFrom k leg
  OneOf k (Some j) leg = (i : ℕ) × (k ≤ i) × (suc i ≤ j) × (Nth i ≡ leg)

  abbrev pub TwoOf : Option ℕ → Leg → Type 0
  TwoOf None leg = ⊥
  TwoOf (Some j) leg = NthFrom j leg

  abbrev pub IsFrom : ℕ → Option ℕ → Type 0
  IsFrom k None = Unit {0}
  IsFrom k (Some j) = k ≤ j

  pub record ListTold (way : Way) (d k : ℕ) (c : Guarded) (g : GuardedMarks) : Type 0 where
    pub bound : Option ℕ
    pub from : IsFrom k bound
    pub inside : AreTold way d (OneOf k bound) c.inside g.inside
    pub rest : AreTold way d (TwoOf bound) c.rest g.rest

  one_from : (k : ℕ) (bound : Option ℕ) (leg : Leg) → OneOf k bound leg → NthFrom k leg
  one_from k None leg p = p
  one_from k (Some j) leg p = (p.0, p.1, p.3)

  two_from : (k : ℕ) (bound : Option ℕ) → IsFrom k bound → (leg : Leg) → TwoOf bound leg → NthFrom k leg
  two_from k None f leg n = absurd n
  two_from k (Some j) f leg p = (p.0, omega (arith, p.1, f), p.2)

  parts_apart : (k : ℕ) (bound : Option ℕ) (leg : Leg) → OneOf k bound leg → TwoOf bound leg → ⊥
  parts_apart k None leg p n = n
  parts_apart k (Some j) leg p q = let same : p.0 ≡ q.0 =
      ap number (p.3 ∙ sym q.2) in absurd (omega (arith, same, p.2, q.1))

  from_less : (k : ℕ) (bound : Option ℕ) → IsFrom (suc k) bound → IsFrom k bound
  from_less k None f = tt
  from_less k (Some j) f = omega (arith, f)

  widen : (k : ℕ) (bound : Option ℕ) → IsFrom (suc k) bound → (leg : Leg) → (Nth k ≡ leg) ⊎ OneOf (suc k) bound leg →
      OneOf k bound leg
  widen k None f leg (inl x) = (k, omega arith, x)
  widen k None f leg (inr y) = (y.0, omega (arith, y.1), y.2)
  widen k (Some j) f leg (inl x) = (k, omega arith, f, x)
  widen k (Some j) f leg (inr y) = (y.0, omega (arith, y.1), y.2, y.3)

  in_order_told : (way : Way) (d : ℕ) → IsFair way d → (k : ℕ) (c : Guarded) (g : GuardedMarks) →
      Shaped c.inside g.inside → ListTold way d k c g → AreTold way d (NthFrom k) (in_order c).lines (marks_in_order g)
  in_order_told way d fair k c g s t =
      told_more way d (λ leg. OneOf k t.bound leg ⊎ TwoOf t.bound leg) (NthFrom k) _ _
      (λ leg p. ⊎_elim (λ x. one_from k t.bound leg x) (λ y. two_from k t.bound t.from leg y) p)
      (told_then way d fair (OneOf k t.bound) (TwoOf t.bound) c.inside c.rest g.inside g.rest s t.inside t.rest
      (parts_apart k t.bound))

  guarded_told : (way : Way) (d : ℕ) → IsFair way d →
      (One Two : Leg → Type 0) (site exit : ℕ) (inside rest : Lines) (one two : Marks) → Shaped inside one →
      AreTold way d One inside one → AreTold way d Two rest two → ((leg : Leg) → One leg → Two leg → ⊥)
      → AreTold way d (λ leg. One leg ⊎ Two leg) (guarded_before site exit inside rest)
      (guarded_marks way inside one two)
  guarded_told way d fair One Two site exit inside rest one two s h g apart = by_test (is_none inside)
    where
      by_test : (b : Test) → AreTold way d (λ leg. One leg ⊎
          Two leg) (if b then rest else IfThen site (CellAtom exit) NoLine inside rest)
          (if b then two else FormThen way NoMark one two)
      by_test true = told_more way d Two (λ leg. One leg ⊎ Two leg) rest two (λ leg p. inr p) g
      by_test false =
          told_then way d fair One Two (IfThen site (CellAtom exit) NoLine inside NoLine) rest
          (FormThen way NoMark one NoMark) two (if_line no_line s no_line)
          (told_more way d (λ leg. ⊥ ⊎ One leg) One _ _ (λ leg p. ⊎_elim (λ n. absurd n) (λ o. o) p)
          (told_if way d fair (λ leg. ⊥) One site (CellAtom exit) NoLine inside way NoMark one
          (told_cutless way d (λ leg. ⊥) NoLine NoMark (record { is = refl })) h (λ leg n o. n))) g apart

  -- the first of the statements and those behind it
  not_first : (k : ℕ) (leg : Leg) → Nth k ≡ leg → NthFrom (suc k) leg → ⊥
  not_first k leg p q = let same : k ≡ q.0 = ap number (p ∙ sym q.2) in absurd (omega (arith, same, q.1))

  from_next : (k : ℕ) (leg : Leg) → NthFrom (suc k) leg → NthFrom k leg
  from_next k leg q = (q.0, omega (arith, q.1), q.2)

  before_rest_told : (way : Way) (d : ℕ) → IsFair way d →
      (k exit : ℕ) (declared : Test) (out : Option ℕ) (lines : Lines) (one : Marks) (c : Guarded) (g : GuardedMarks) →
      Shaped lines one → Shaped c.inside g.inside
      → IsTold (further way (Nth k)) d lines one → ListTold way d (suc k) c g →
      ListTold way d k (before_rest exit declared out lines c) (marks_before_rest way declared out one c.inside g)
  before_rest_told way d fair k exit true None lines one c g s t h l = record {
    bound = None;
    from = tt;
    inside = told_more way d (λ leg. (Nth k ≡ leg) ⊎ NthFrom (suc k) leg) (NthFrom k) _ _
        (λ leg p. ⊎_elim (λ x. (k, omega arith, x)) (λ y. from_next k leg y) p)
        (told_then way d fair (λ leg. Nth k ≡ leg) (NthFrom (suc k)) lines (in_order c).lines one (marks_in_order g) s
        (as_part way d (Nth k) lines one h) (in_order_told way d fair (suc k) c g t l) (not_first k));
    rest = told_cutless way d (λ leg. ⊥) NoLine NoMark (record { is = refl });
  }
  before_rest_told way d fair k exit true (Some site) lines one c g s t h l = record {
    bound = None;
    from = tt;
    inside = told_more way d (λ leg. (Nth k ≡ leg) ⊎ NthFrom (suc k) leg) (NthFrom k) _ _
        (λ leg p. ⊎_elim (λ x. (k, omega arith, x)) (λ y. from_next k leg y) p)
        (told_then way d fair (λ leg. Nth k ≡ leg) (NthFrom (suc k)) lines (in_order c).lines one (marks_in_order g) s
        (as_part way d (Nth k) lines one h) (in_order_told way d fair (suc k) c g t l) (not_first k));
    rest = told_cutless way d (λ leg. ⊥) NoLine NoMark (record { is = refl });
  }
  before_rest_told way d fair k exit false None lines one c g s t h l = record {
    bound = l.bound;
    from = from_less k l.bound l.from;
    inside = told_more way d (λ leg. (Nth k ≡ leg) ⊎ OneOf (suc k) l.bound leg) (OneOf k l.bound) _ _
        (widen k l.bound l.from)
        (told_then way d fair (λ leg. Nth k ≡ leg) (OneOf (suc k) l.bound) lines c.inside one g.inside s
        (as_part way d (Nth k) lines one h) l.inside
        (λ leg p q. not_first k leg p (one_from (suc k) l.bound leg q)));
    rest = l.rest;
  }
  before_rest_told way d fair k exit false (Some site) lines one c g s t h l = record {
    bound = Some (suc k);
    from = omega arith;
    inside = told_more way d (λ leg. Nth k ≡ leg) (OneOf k (Some (suc k))) lines one (λ leg x. (
      k,
      omega arith,
      omega arith,
      x,
    )) (as_part way d (Nth k) lines one h);
    rest = told_more way d (λ leg. OneOf (suc k) l.bound leg ⊎ TwoOf l.bound leg) (NthFrom (suc k)) _ _
        (λ leg p. ⊎_elim (λ x. one_from (suc k) l.bound leg x) (λ y. two_from (suc k) l.bound l.from leg y) p)
        (guarded_told way d fair (OneOf (suc k) l.bound) (TwoOf l.bound) site exit c.inside c.rest g.inside g.rest t
        l.inside l.rest (parts_apart (suc k) l.bound));
  }

  round_told : (way : Way) (d : ℕ) (fair : IsFair way d) (site : ℕ) (first : Test) (out : Option ℕ) (exit : ℕ)
      (test : Lines) (answer : Value) (step body : Lines) (m : Made) (one two three : Marks) → Shaped test one →
      Shaped step two → Shaped body three
      → IsTold (in_turn way Tested) (suc d) test one → IsTold (in_turn way Step) (suc d) step two →
      IsTold (in_turn way Body) (suc d) body three
      → AreTold way d (IsTurn way d fair) (round_code site first out exit test answer step body m).lines
      (round_marks way out exit test answer step m one two three)
  round_told way d fair site first None exit test answer step body m one two three st ss sb t s b =
      let turn = turned way in
      let fair' = fair_turned way d fair in
      told_loop way d fair (λ leg. Tested ≡ leg) (λ leg. (Body ≡ leg) ⊎ (Step ≡ leg)) site first test answer.atom
      (joined_to body step) way one (marks_then three two) (as_turn way d Tested test one t)
      (told_then turn (suc d) fair' (λ leg. Body ≡ leg) (λ leg. Step ≡ leg) body step three two sb
      (as_turn way d Body body three b) (as_turn way d Step step two s)
      (λ leg p q. differ Body Step leg refl p q))
      (λ leg p q. ⊎_elim (λ y. differ Tested Body leg refl p y) (λ n. differ Tested Step leg refl p n) q)
  round_told way d fair site first (Some o) exit test answer step body m one two three st ss sb t s b =
      let turn = turned way in
      let fair' = fair_turned way d fair in
      let set = set_to (next_cell m) answer.atom in
      let cs = settled o exit (with_cell m OfValue answer.of) in
      let guard = guarded_before o exit step NoLine in
      told_loop way d fair (λ leg. Tested ≡ leg) (λ leg. (Body ≡ leg) ⊎ (Step ≡ leg)) site first _
      (CellAtom (next_cell m)) (joined_to body (joined_to cs.lines guard)) way _ _
      (cutless_then_told turn (suc d) fair' (λ leg. Tested ≡ leg) (SetThen (next_cell m) (Copy _) NoLine)
      (IfThen o (CellAtom exit) NoLine (joined_to test set) NoLine) (MarkThen way NoMark)
      (FormThen way NoMark (marks_then one (all_marked way set)) NoMark) (set_line no_line) (record { is = refl })
      (told_more turn (suc d) (λ leg. ⊥ ⊎ (Tested ≡ leg)) (λ leg. Tested ≡ leg) _ _
      (λ leg p. ⊎_elim (λ n. absurd n) (λ x. x) p)
      (told_if turn (suc d) fair' (λ leg. ⊥) (λ leg. Tested ≡ leg) o (CellAtom exit) NoLine (joined_to test set) way
      NoMark (marks_then one (all_marked way set)) (told_cutless turn (suc d) (λ leg. ⊥) NoLine NoMark
      (record { is = refl }))
      (then_cutless turn (suc d) fair' (λ leg. Tested ≡ leg) test set one (all_marked way set) st
      (as_turn way d Tested test one t) (record { is = refl })) (λ leg n p. n))))
      (told_then turn (suc d) fair' (λ leg. Body ≡ leg) (λ leg. Step ≡ leg) body (joined_to cs.lines guard) three
      (marks_then (all_marked way cs.lines) (guarded_marks way step two NoMark)) sb
      (as_turn way d Body body three b)
      (cutless_then_told turn (suc d) fair' (λ leg. Step ≡ leg) cs.lines guard (all_marked way cs.lines)
      (guarded_marks way step two NoMark) (shaped_all way cs.lines) (record { is = refl })
      (step_guard way d fair o exit step two ss (as_turn way d Step step two s)))
      (λ leg p q. differ Body Step leg refl p q))
      (λ leg p q. ⊎_elim (λ y. differ Tested Body leg refl p y) (λ n. differ Tested Step leg refl p n) q)
    where
      step_guard : (way : Way) (d : ℕ) → IsFair way d → (o exit : ℕ) (step : Lines) (two : Marks) → Shaped step two →
          AreTold (turned way) (suc d) (λ leg. Step ≡ leg) step two →
          AreTold (turned way) (suc d) (λ leg. Step ≡ leg) (guarded_before o exit step NoLine)
          (guarded_marks way step two NoMark)
      step_guard way d fair o exit step two ss h = by_test (is_none step)
        where
          by_test : (b : Test) → AreTold (turned way) (suc d) (λ leg. Step ≡ leg)
              (if b then NoLine else IfThen o (CellAtom exit) NoLine step NoLine)
              (if b then NoMark else FormThen way NoMark two NoMark)
          by_test true = told_cutless (turned way) (suc d) (λ leg. Step ≡ leg) NoLine NoMark (record { is = refl })
          by_test false =
              told_more (turned way) (suc d) (λ leg. ⊥ ⊎ (Step ≡ leg)) (λ leg. Step ≡ leg) _ _
              (λ leg p. ⊎_elim (λ n. absurd n) (λ x. x) p)
              (told_if (turned way) (suc d) (fair_turned way d fair) (λ leg. ⊥) (λ leg. Step ≡ leg) o (CellAtom exit)
              NoLine step way NoMark two (told_cutless (turned way) (suc d) (λ leg. ⊥) NoLine NoMark
              (record { is = refl })) h (λ leg n p. n))

  mutual
    unfolding statement_code statement_marks

    pub statement_told : (way : Way) (d : ℕ) → IsFair way d → (exit : ℕ) (s : Statement) (m : Made) →
        IsTold way d (statement_code calls here exit s m).lines (statement_marks calls marks here way exit s m)
    statement_told way d fair exit (Do e) m =
        as_whole way d (λ leg. Operand 0 ≡ leg) _ _
        (as_part way d (Operand 0) _ _
        (expression_told (further way (Operand 0)) d (fair_further way d (Operand 0) fair) e m))
    statement_told way d fair exit (Declare x None) m =
        as_whole way d (λ leg. ⊥) _ _ (told_cutless way d (λ leg. ⊥) _ _ (record { is = refl }))
    statement_told way d fair exit (Declare x (Some e)) m =
        let ce = expression_code calls here e m in
        as_whole way d (λ leg. Operand 0 ≡ leg) _ _ (then_cutless way d fair (λ leg. Operand 0 ≡ leg) ce.lines
        (set_to (here.base + x) ce.value.atom) _ (MarkThen (further way (Own 0)) NoMark)
        (expression_shaped calls marks shaped here (further way (Operand 0)) e m)
        (as_part way d (Operand 0) _ _
        (expression_told (further way (Operand 0)) d (fair_further way d (Operand 0) fair) e m))
        (record { is = refl }))
    statement_told way d fair exit (Fill site array values) m =
        let cv = operands_code calls here values m in
        let number = here.arrays + array in
        let last = ClearThen number (initial_lines site (element_at here array) number 0 cv.values) in
        as_whole way d (OperandFrom 0) _ _ (then_cutless way d fair (OperandFrom 0) cv.lines last _
        (all_marked (further way (Own 0)) last) (operands_shaped calls marks shaped here way 0 values m)
        (operands_told way d fair 0 values m)
        (record { is = (initial_cutless site (element_at here array) number 0 cv.values).is }))
    statement_told way d fair exit (Block list) m =
        let c = list_code calls here exit false list m in
        as_whole way d (NthFrom 0) _ _
        (in_order_told way d fair 0 c (list_marks calls marks here way 0 exit false list m)
        (list_shaped calls marks shaped here way 0 exit false list m).0
        (list_told way d fair 0 exit false list m))
    statement_told way d fair exit (If site test chosen other) m =
        let ct = expression_code calls here test m in
        let cy = list_code calls here exit false chosen ct.made in
        let cn = list_code calls here exit false other cy.made in
        let fy = fair_further way d Chosen fair in
        let fn = fair_further way d Other fair in
        as_whole way d (λ leg. (Tested ≡ leg) ⊎ ((Chosen ≡ leg) ⊎ (Other ≡ leg))) _ _
        (told_then way d fair (λ leg. Tested ≡ leg) (λ leg. (Chosen ≡ leg) ⊎ (Other ≡ leg)) ct.lines
        (IfThen site ct.value.atom (in_order cy).lines (in_order cn).lines NoLine) _ _
        (expression_shaped calls marks shaped here (further way Tested) test m)
        (as_part way d Tested _ _ (expression_told (further way Tested) d (fair_further way d Tested fair) test m))
        (told_if way d fair (λ leg. Chosen ≡ leg) (λ leg. Other ≡ leg) site ct.value.atom (in_order cy).lines
        (in_order cn).lines (further way (Own 0)) _ _
        (as_part way d Chosen _ _ (as_whole (further way Chosen) d (NthFrom 0) _ _
        (in_order_told (further way Chosen) d fy 0 cy (list_marks calls marks here (further way Chosen) 0 exit
        false chosen ct.made) (list_shaped calls marks shaped here (further way Chosen) 0 exit false chosen
        ct.made).0 (list_told (further way Chosen) d fy 0 exit false chosen ct.made))))
        (as_part way d Other _ _ (as_whole (further way Other) d (NthFrom 0) _ _
        (in_order_told (further way Other) d fn 0 cn (list_marks calls marks here (further way Other) 0 exit
        false other cy.made) (list_shaped calls marks shaped here (further way Other) 0 exit false other
        cy.made).0 (list_told (further way Other) d fn 0 exit false other cy.made))))
        (λ leg p q. differ Chosen Other leg refl p q))
        (λ leg p q. ⊎_elim (λ y. differ Tested Chosen leg refl p y) (λ n. differ Tested Other leg refl p n) q))
    statement_told way d fair exit (Loop site first test step body) m =
        let out = way_out true true body in
        let co = opened out exit m in
        let ct = optional_code calls here test co.made in
        let cs = optional_code calls here step ct.made in
        let cb = statement_code calls here co.exit body cs.made in
        let cr = round_code site first out co.exit ct.lines ct.value cs.lines cb.lines cb.made in
        let cw = outward (way_out false false body) co.exit exit cr.made in
        let mt = optional_marks calls marks here (in_turn way Tested) test co.made in
        let ms = optional_marks calls marks here (in_turn way Step) step ct.made in
        let mb = statement_marks calls marks here (in_turn way Body) co.exit body cs.made in
        let mr = round_marks way out co.exit ct.lines ct.value cs.lines cb.made mt ms mb in
        let st = optional_shaped calls marks shaped here (in_turn way Tested) test co.made in
        let ss = optional_shaped calls marks shaped here (in_turn way Step) step ct.made in
        let sb = statement_shaped calls marks shaped here (in_turn way Body) co.exit body cs.made in
        as_whole way d (IsTurn way d fair) _ _
        (cutless_then_told way d fair (IsTurn way d fair) co.lines (joined_to cr.lines cw.lines)
        (all_marked way co.lines) (marks_then mr (all_marked way cw.lines)) (shaped_all way co.lines)
        (opened_cutless out exit m)
        (then_cutless way d fair (IsTurn way d fair) cr.lines cw.lines mr (all_marked way cw.lines)
        (round_shaped way site first out co.exit ct.lines ct.value cs.lines cb.lines cb.made mt ms mb st ss sb)
        (round_told way d fair site first out co.exit ct.lines ct.value cs.lines cb.lines cb.made mt ms mb st ss sb
        (optional_told (in_turn way Tested) (suc d) (fair_in_turn way d Tested fair) test co.made)
        (optional_told (in_turn way Step) (suc d) (fair_in_turn way d Step fair) step ct.made)
        (statement_told (in_turn way Body) (suc d) (fair_in_turn way d Body fair) co.exit body cs.made))
        (outward_cutless (way_out false false body) co.exit exit cr.made)))
    statement_told way d fair exit (Switch site value arms) m =
        let out = way_out_of_arms true true arms in
        let cv = expression_code calls here value m in
        let co = opened out exit cv.made in
        let cs = selected site cv.value arms co.made in
        let ca = arms_code calls here co.exit site cs.value.atom (int (pos 0)) 0 arms cs.made in
        let cw = outward (way_out_of_arms false true arms) co.exit exit ca.made in
        let ma = arms_marks calls marks here way co.exit site cs.value.atom (int (pos 0)) 0 arms cs.made in
        as_whole way d (λ leg. (Tested ≡ leg) ⊎ ArmFrom 0 leg) _ _
        (told_then way d fair (λ leg. Tested ≡ leg) (ArmFrom 0) cv.lines
        (joined_to co.lines (joined_to cs.lines (joined_to ca.lines cw.lines))) _
        (marks_then (all_marked way co.lines)
        (marks_then (all_marked way cs.lines) (marks_then ma (all_marked way cw.lines))))
        (expression_shaped calls marks shaped here (further way Tested) value m)
        (as_part way d Tested _ _ (expression_told (further way Tested) d (fair_further way d Tested fair) value m))
        (cutless_then_told way d fair (ArmFrom 0) co.lines (joined_to cs.lines (joined_to ca.lines cw.lines))
        (all_marked way co.lines) (marks_then (all_marked way cs.lines)
        (marks_then ma (all_marked way cw.lines))) (shaped_all way co.lines) (opened_cutless out exit cv.made)
        (cutless_then_told way d fair (ArmFrom 0) cs.lines (joined_to ca.lines cw.lines) (all_marked way cs.lines)
        (marks_then ma (all_marked way cw.lines)) (shaped_all way cs.lines)
        (selected_cutless site cv.value arms co.made)
        (then_cutless way d fair (ArmFrom 0) ca.lines cw.lines ma (all_marked way cw.lines)
        (arms_shaped calls marks shaped here way co.exit site cs.value.atom (int (pos 0)) 0 arms cs.made)
        (arms_told way d fair co.exit site cs.value.atom (int (pos 0)) 0 arms cs.made)
        (outward_cutless (way_out_of_arms false true arms) co.exit exit ca.made))))
        (λ leg p q. differ Tested (Arm q.0) leg refl p q.2))
    statement_told way d fair exit (Break site) m =
        as_whole way d (λ leg. ⊥) _ _ (told_cutless way d (λ leg. ⊥) _ _ (record { is = refl }))
    statement_told way d fair exit (Continue site) m =
        as_whole way d (λ leg. ⊥) _ _ (told_cutless way d (λ leg. ⊥) _ _ (record { is = refl }))
    statement_told way d fair exit (Return site None) m =
        as_whole way d (λ leg. ⊥) _ _ (told_cutless way d (λ leg. ⊥) _ _ (record { is = refl }))
    statement_told way d fair exit (Return site (Some e)) m =
        let ce = expression_code calls here e m in
        let last = joined_to (set_to here.answer ce.value.atom) (set_exit exit 3) in
        as_whole way d (λ leg. Operand 0 ≡ leg) _ _ (then_cutless way d fair (λ leg. Operand 0 ≡ leg) ce.lines last _
        (all_marked (further way (Own 0)) last)
        (expression_shaped calls marks shaped here (further way (Operand 0)) e m)
        (as_part way d (Operand 0) _ _
        (expression_told (further way (Operand 0)) d (fair_further way d (Operand 0) fair) e m))
        (record { is = refl }))
    statement_told way d fair exit (Barrier site) m = told_barrier way d fair site

    pub list_told : (way : Way) (d : ℕ) → IsFair way d →
        (k exit : ℕ) (guarded : Test) (list : Statements) (m : Made) →
        ListTold way d k (list_code calls here exit guarded list m) (list_marks calls marks here way k exit guarded
        list m)
    list_told way d fair k exit guarded empty m = record {
      bound = None;
      from = tt;
      inside = told_cutless way d (NthFrom k) NoLine NoMark (record { is = refl });
      rest = told_cutless way d (λ leg. ⊥) NoLine NoMark (record { is = refl });
    }
    list_told way d fair k exit guarded (also s rest) m =
        let declared = guarded && declares s in
        let out = way_out true true s in
        let cs = statement_code calls here exit s m in
        let inner = is_guarded declared out guarded in
        before_rest_told way d fair k exit declared out cs.lines
        (statement_marks calls marks here (further way (Nth k)) exit s m)
        (list_code calls here exit inner rest cs.made) (list_marks calls marks here way (suc k) exit inner rest
        cs.made)
        (statement_shaped calls marks shaped here (further way (Nth k)) exit s m)
        (list_shaped calls marks shaped here way (suc k) exit inner rest cs.made).0
        (statement_told (further way (Nth k)) d (fair_further way d (Nth k) fair) exit s m)
        (list_told way d fair (suc k) exit inner rest cs.made)

    pub arms_told : (way : Way) (d : ℕ) → IsFair way d →
        (exit site : ℕ) (chosen fallen : Atom) (k : ℕ) (arms : Arms) (m : Made) →
        AreTold way d (ArmFrom k) (arms_code calls here exit site chosen fallen k arms m).lines
        (arms_marks calls marks here way exit site chosen fallen k arms m)
    arms_told way d fair exit site chosen fallen k no_arm m =
        told_cutless way d (ArmFrom k) NoLine NoMark (record { is = refl })
    arms_told way d fair exit site chosen fallen k (arm labels other body rest) m =
        let out = way_out_of_all true true body in
        let ce = entry_code chosen fallen k m in
        let cl = list_code calls here exit false body ce.made in
        let ca = around_arm site exit out ce (in_order cl) in
        let cf = fallen_code out exit ce.value cl.made in
        let cr = arms_code calls here exit site chosen ca.value.atom (k + 1) rest ca.made in
        let ml = list_marks calls marks here (further way (Arm k)) 0 exit false body ce.made in
        let mr = arms_marks calls marks here way exit site chosen ca.value.atom (k + 1) rest ca.made in
        let fa = fair_further way d (Arm k) fair in
        subst (λ z. AreTold way d (ArmFrom k) z (arms_marks calls marks here way exit site chosen fallen k
        (arm labels other body rest) m))
        (sym (join_assoc ce.lines (IfThen site ce.value.atom (in_order cl).lines NoLine cf.lines) cr.lines))
        (cutless_then_told way d fair (ArmFrom k) ce.lines (IfThen site ce.value.atom (in_order cl).lines NoLine
        (joined_to cf.lines cr.lines)) (all_marked way ce.lines)
        (FormThen way (marks_in_order ml) NoMark (marks_then (all_marked way cf.lines) mr))
        (shaped_all way ce.lines) (record { is = refl })
        (told_more way d (λ leg. ((Arm k ≡ leg) ⊎ ⊥) ⊎ ArmFrom (k + 1) leg) (ArmFrom k) _ _
        (λ leg p. ⊎_elim (λ x. ⊎_elim (λ y. (k, omega arith, y)) (λ n. absurd n) x) (λ y. (
          y.0,
          omega (arith, y.1),
          y.2,
        )) p)
        (told_then way d fair (λ leg. (Arm k ≡ leg) ⊎ ⊥) (ArmFrom (k + 1))
        (IfThen site ce.value.atom (in_order cl).lines NoLine NoLine) (joined_to cf.lines cr.lines)
        (FormThen way (marks_in_order ml) NoMark NoMark) (marks_then (all_marked way cf.lines) mr)
        (if_line (in_order_shaped calls marks shaped here cl ml
        (list_shaped calls marks shaped here (further way (Arm k)) 0 exit false body ce.made)) no_line no_line)
        (told_if way d fair (λ leg. Arm k ≡ leg) (λ leg. ⊥) site ce.value.atom (in_order cl).lines NoLine way
        (marks_in_order ml) NoMark
        (as_part way d (Arm k) _ _ (as_whole (further way (Arm k)) d (NthFrom 0) _ _
        (in_order_told (further way (Arm k)) d fa 0 cl ml
        (list_shaped calls marks shaped here (further way (Arm k)) 0 exit false body ce.made).0
        (list_told (further way (Arm k)) d fa 0 exit false body ce.made))))
        (told_cutless way d (λ leg. ⊥) NoLine NoMark (record { is = refl })) (λ leg p n. n))
        (cutless_then_told way d fair (ArmFrom (k + 1)) cf.lines cr.lines (all_marked way cf.lines) mr
        (shaped_all way cf.lines) (fallen_cutless out exit ce.value cl.made)
        (arms_told way d fair exit site chosen ca.value.atom (k + 1) rest ca.made))
        (λ leg p q. ⊎_elim (λ x. let same : k ≡ q.0 = ap number (x ∙ sym q.2) in
        absurd (omega (arith, same, q.1))) (λ n. n) p))))

  pub body_told : (way : Way) (d : ℕ) → IsFair way d → (f : Function) (m : Made) →
      AreTold way d (NthFrom 0) (body_code calls here f m).lines (body_marks calls marks here way f m)
  body_told way d fair f m =
      let cr = result_code f.result m in
      let out = way_out_of_all true true f.body in
      let co = opened out 0 cr.made in
      let cl = list_code calls here co.exit false f.body co.made in
      let ml = list_marks calls marks here way 0 co.exit false f.body co.made in
      cutless_then_told way d fair (NthFrom 0) cr.lines (joined_to co.lines (in_order cl).lines)
      (all_marked way cr.lines) (marks_then (all_marked way co.lines) (marks_in_order ml))
      (shaped_all way cr.lines) (result_cutless f.result m)
      (cutless_then_told way d fair (NthFrom 0) co.lines (in_order cl).lines (all_marked way co.lines)
      (marks_in_order ml) (shaped_all way co.lines) (opened_cutless out 0 cr.made)
      (in_order_told way d fair 0 cl ml (list_shaped calls marks shaped here way 0 co.exit false f.body co.made).0
      (list_told way d fair 0 co.exit false f.body co.made)))
