-- Both go together through a loop of a function.
use Rattle.std.proofs.Common.{◌≡◌, ℕ, ◌+◌, ◌<◌, ◌≤◌, length, Option, Some, None, refl, sym, ◌∙◌, arith, inl, inr}
use Rattle.std.proofs.Common.{Bool as Test, true, false}
use Rattle.std.specs.Prelude.{nat_eq, ◌||◌}
use Rattle.std.proofs.lemmas.Bool.{or_left, or_right}
use Rattle.std.proofs.lemmas.Option.{none-some}
use Rattle.wg_num.specs.declared.types.IntType.{IntType}
use Rattle.cl_model.specs.Tree.{Expression, Statement, Loop, Program, Function}
use Rattle.cl_model.specs.Lists.{IsOneOf}
use Rattle.cl_model.specs.Calls.{function_at}
use Rattle.cl_model.specs.Valid.{Scope, Has, OptionalFits, StatementFits, scope_after, NamesInOptional, declarations}
use Rattle.cl_model.specs.Varying.{Condition, loop_condition, conditions_in_optional, conditions_of}
use Rattle.cl_model.specs.Varying.{assigns_in_optional, assigns, returns, some_assigns, some_returns, AVariable}
use Rattle.cl_model.specs.Varying.{AResult, AnExpression, Varies, assigned_under, return_under}
use Rattle.kir.specs.declared.line.Atom.{Atom}
use Rattle.kir.specs.Tree.{Lines, joined_to, Kernel}
use Rattle.kir.specs.Live.{reads, live_in}
use Rattle.kir.specs.Steps.{atom_value}
use Rattle.kir_lower.specs.Made.{Made, Instance, next_cell}
use Rattle.kir_lower.specs.Ways.{way_out}
use Rattle.kir_lower.specs.Actions.{Code, Steps, Opened, opened, outward, round_code}
use Rattle.kir_lower.specs.Code.{Calls, optional_code, statement_code}
use Rattle.kir_uniform.specs.Uniform.{sets_in}
use Rattle.kir_uniform.specs.Does.{Cells, Who}
use Rattle.diverge_sound.proofs.Keeps.{body_sound}
use Rattle.diverge_sound.proofs.Parts.{GoodRun, good_loop, turn_condition, TurnUnder, in_left, in_right}
use Rattle.diverge_sound.proofs.Values.{InBody, UnderBody, BackBody, V}
use Rattle.kir_lower_shape.proofs.Quiet.{Quiet, quiet_none, quiet_less, quiet_then}
use Rattle.kir_lower_shape.proofs.Steps.{IsApart, IsFree, outward_quiet, round_quiet}
use Rattle.kir_lower_shape.proofs.Scoped.{as_first}
use Rattle.kir_lower_shape.proofs.AbsentCode.{opened_up, optional_up, statement_up}
use Rattle.kir_lower_shape.proofs.Across.{out_below}
use Rattle.kir_lower_shape.proofs.Anew.{expression_quiet, statement_quiet}
use Rattle.kir_lower_uniform.specs.Together.{Equal, Anything, Together}
use Rattle.kir_lower_uniform.proofs.Places.{together_then}
use Rattle.kir_lower_uniform.proofs.Rules.{together_seq}
use Rattle.kir_lower_uniform.proofs.UnsetSteps.{opened_unset}
use Rattle.kir_lower_uniform.proofs.UnsetCode.{Off, optional_unset, statement_unset, round_up}
use Rattle.kir_lower_uniform.proofs.Ground.{Even, Grown, outward_back, round_back, statement_back, optional_back}
use Rattle.kir_lower_uniform.proofs.Fresh.{atom_not_read, optional_in}
use Rattle.kir_lower_uniform.proofs.Setting.{Setting, Known, Bound, bound_before, ScopeWithin, known_below}
use Rattle.kir_lower_uniform.proofs.Evaluated.{off_above, off_known, OptionalEqual, optional_together}
use Rattle.kir_lower_uniform.proofs.Scopes.{has_after, undeclared, way_exits, more_ways}
use Rattle.kir_lower_uniform.proofs.Guards.{AnswerEqual, Settled, covers_settled, known_clear, above_clear}
use Rattle.kir_lower_uniform.proofs.Exits.{IsSome, Pending, pending_more, pending_opened, free_even, apart_is, Outside}
use Rattle.kir_lower_uniform.proofs.Exits.{outside_kept, opened_together, outward_together}
use Rattle.kir_lower_uniform.proofs.Rounds.{round_together}

module _ (program : Program) (kernel : Kernel) (one other : Who) (fn : ℕ) (calls : Calls) (here : Instance)
    (set : Setting program kernel one other fn calls here) where
  abbrev F : Function
  F = function_at program fn

  abbrev Size : ℕ
  Size = length (function_at program fn).variables

  abbrev E : ℕ → Type 0
  E = Even program kernel

  abbrev Go : (ℕ → Test) → Lines → (Cells → Cells → Type 0) → Cells → Cells → Type 0
  Go out lines Q p q = Together (Even program kernel) one other out lines Q p q

  abbrev Ans : Cells → Cells → Type 0
  Ans p q = AnswerEqual program kernel one other fn calls here set p q

  abbrev pub GR : Scope → Statement → Type 0
  GR scope s = GoodRun (InBody program fn) (UnderBody program fn) (BackBody program fn) scope s

  -- what is assigned and returned in a part is so in the function
  pub record IsPart (a : ℕ → Test) (r : Test) : Type 0 where
    pub assigned : (x : ℕ) → a x ≡ true → some_assigns (function_at program fn).body x ≡ true
    pub returned : r ≡ true → some_returns (function_at program fn).body ≡ true

  -- both go together through a statement: where it is settled, what is pending behind it is equal
  abbrev pub StatementGo : Type 0 → ℕ → Scope → Statement → Lines → Type 0
  StatementGo W exit scope s lines =
      (out : ℕ → Test) (p q : Cells) → Bound program kernel here (scope_after scope s) out →
      Equal (Even program kernel) (λ c. live_in c lines (out c)) p q → (W → p exit ≡ q exit) →
      AnswerEqual program kernel one other fn calls here set p q
      → Together (Even program kernel) one other out lines
      (λ a b. (Settled program kernel one other fn calls here set scope s → W → a exit ≡ b exit) ×
      AnswerEqual program kernel one other fn calls here set a b) p q

  -- more is in scope
  pub bound_after : (scope : Scope) (s : Statement) (out : ℕ → Test) → Bound program kernel here scope out →
      Bound program kernel here (scope_after scope s) out
  bound_after scope s out bound c e l =
      elim (bound c e l) [ inl k ↦ inl (k.0, has_after scope s k.0 k.1, k.2) | inr k ↦ inr k ]

  -- an expression that may be absent does not vary
  abbrev pub OptionalSteady : Option Expression → Type 0
  OptionalSteady None = Unit {0}
  OptionalSteady (Some e) = V program fn e → ⊥

  pub optional_equal : (e : Option Expression) (x : Atom) (a b : Cells) →
      OptionalEqual program kernel one other fn calls here set e x a b → OptionalSteady e →
      atom_value a x ≡ atom_value b x
  optional_equal None x a b h n = h
  optional_equal (Some e) x a b h n = h n

  optional_quiet : (c : ℕ) (e : Option Expression) (scope : Scope) → OptionalFits program F e →
      NamesInOptional scope e → IsApart c here scope → (m : Made) →
      Quiet c (optional_code calls here e m).lines (reads c (optional_code calls here e m).value.atom)
  optional_quiet c None scope h n a m = quiet_none c _ refl
  optional_quiet c (Some e) scope h n a m = expression_quiet program c calls (set.quiet c) F here e h.0 scope h.1 n a m

  opened_is : (way : Option ℕ) (exit : ℕ) (m : Made) → IsSome way → (opened way exit m).exit ≡ next_cell m
  opened_is None exit m k = absurd (none-some k.0 k.1)
  opened_is (Some s) exit m k = refl

  module _ (W : Type 0) (exit site : ℕ) (first : Test) (test step : Option Expression) (body : Statement)
      (scope : Scope) (m : Made) where
    abbrev Way : Option ℕ
    Way = way_out true true body

    abbrev pub Co : Opened
    Co = opened (way_out true true body) exit m

    abbrev pub Ct : Code
    Ct = optional_code calls here test (opened (way_out true true body) exit m).made

    abbrev pub Cs : Code
    Cs =
        optional_code calls here step (optional_code calls here test (opened (way_out true true body) exit m).made).made

    abbrev pub Cb : Steps
    Cb = statement_code calls here Co.exit body Cs.made

    abbrev pub Cr : Steps
    Cr = round_code site first (way_out true true body) Co.exit Ct.lines Ct.value Cs.lines Cb.lines Cb.made

    abbrev pub Cw : Steps
    Cw = outward (way_out false false body) Co.exit exit Cr.made

    -- the loop is settled: so is its body, and its test does not vary
    loop_calm : Settled program kernel one other fn calls here set scope (Loop site first test step body) → (s : ℕ) →
        way_out false false body ≡ Some s → Settled program kernel one other fn calls here set scope body ×
        OptionalSteady test
    loop_calm st s e = (
      (λ t k c i x v. st s e c (in_right (loop_condition scope test step body) _ c
          (in_right (conditions_in_optional scope test) _ c
          (in_right (conditions_in_optional scope step) (conditions_of scope body) c i))) x v),
      by test (λ c i. st s e c (in_left (loop_condition scope test step body) _ c i)),
    )
      where
        by : (t : Option Expression) → ((c : Condition) → IsOneOf (loop_condition scope t step body) c →
            c.exits ≡ true → Varies program (AnExpression fn c.test) → ⊥) → OptionalSteady t
        by None h = tt
        by (Some t) h = λ v. h (turn_condition scope t step body) (inl refl) (way_exits false false body s e) v

    pub loop_together : StatementFits program F (Loop site first test step body) →
        GR scope (Loop site first test step body) →
        IsPart (assigns (Loop site first test step body)) (returns (Loop site first test step body)) →
        ScopeWithin program kernel here Size scope → here.base + Size ≤ next_cell m
        → Pending program kernel one other fn calls here set W exit (next_cell m) →
        ((s : ℕ) → way_out false false body ≡ Some s → W) → Grown program kernel Cw.made →
        StatementGo (IsSome (way_out true true body)) Co.exit scope body Cb.lines
        → StatementGo W exit scope (Loop site first test step body) (joined_to Co.lines (joined_to Cr.lines Cw.lines))
    loop_together fits good part within low pend opens grown go_body out p q bound al x0 ans =
        let gr = outward_back program kernel (way_out false false body) Co.exit exit Cr.made grown in
        let gb = round_back program kernel site first (way_out true true body) Co.exit Ct.lines Ct.value Cs.lines
        Cb.lines Cb.made gr in
        let gs = statement_back program kernel calls set.back here Co.exit body Cs.made gb in
        let gt = optional_back program kernel calls set.back here step Ct.made gs in
        let go_ = optional_back program kernel calls set.back here test Co.made gt in
        let a = opened_up (way_out true true body) exit m in
        let b = optional_up calls set.up here test Co.made in
        let d = optional_up calls set.up here step Ct.made in
        let e = statement_up calls set.up here Co.exit body Cs.made in
        let f = round_up site first (way_out true true body) Co.exit Ct.lines Ct.value Cs.lines Cb.lines Cb.made in
        let k = good_loop (InBody program fn) (UnderBody program fn) (BackBody program fn) scope site first test step
        body good in
        let pend_o =
        pending_opened program kernel one other fn calls here set W exit (way_out true true body) m low go_ pend in
        let pend_y = pending_more program kernel one other fn calls here set (IsSome (way_out true true body)) Co.exit
        (next_cell Co.made) (next_cell Cb.made) (omega (arith, b, d, e)) pend_o in
        let pend_x = pending_more program kernel one other fn calls here set W exit (next_cell m) (next_cell Cb.made)
        (omega (arith, a, b, d, e)) pend in
        let sound = body_sound scope body good.names.2 in
        let free_y : (c : ℕ) → E c → IsFree c Co.exit (way_out true true body) =
        λ c ev s w. free_even program kernel one other fn calls here set Co.exit c (pend_o.plain (s, w)) ev in
        let free_out : (c : ℕ) → E c → IsFree c Co.exit (way_out false false body) =
        λ c ev s w. free_even program kernel one other fn calls here set Co.exit c
        (pend_o.plain (more_ways body s w)) ev in
        let in_test = optional_in program kernel calls set.up set.back here set.fresh test Co.made gt in
        let quiet_test : (c : ℕ) → E c → IsApart c here scope → Quiet c Ct.lines false =
        λ c ev ap_. quiet_less c Ct.lines _ (optional_quiet c test scope fits.0 good.names.0 ap_ Co.made) in
        let quiet_step : (c : ℕ) → E c → IsApart c here scope → Quiet c Cs.lines false =
        λ c ev ap_. quiet_less c Cs.lines _ (optional_quiet c step scope fits.1 good.names.1 ap_ Ct.made) in
        let quiet_body : (c : ℕ) → E c → IsApart c here scope → Quiet c Cb.lines false =
        λ c ev ap_. quiet_less c Cb.lines _ (statement_quiet program c calls (set.quiet c) F here Co.exit body
        scope fits.2 (as_first scope body good.names.2) ap_ (free_y c ev) Cs.made) in
        let quiet_out : (c : ℕ) → E c → IsApart c here scope → Quiet c Cw.lines false =
        λ c ev ap_. outward_quiet c (way_out false false body) Co.exit exit Cr.made (free_out c ev) in
        let quiet_round : (c : ℕ) → E c → IsApart c here scope → Quiet c Cr.lines false =
        λ c ev ap_. round_quiet c site first (way_out true true body) Co.exit Ct.lines Ct.value Cs.lines Cb.lines
        Cb.made (free_y c ev) (optional_quiet c test scope fits.0 good.names.0 ap_ Co.made) (quiet_step c ev ap_)
        (quiet_body c ev ap_) in
        let bound_w = bound_before program kernel here Cw.lines scope out quiet_out bound in
        let quiet_rest : (c : ℕ) → E c → IsApart c here scope → Quiet c (joined_to Cr.lines Cw.lines) false =
        λ c ev ap_. quiet_then c Cr.lines Cw.lines false false (quiet_round c ev ap_) (λ z. quiet_out c ev ap_) in
        let bound_r = bound_before program kernel here (joined_to Cr.lines Cw.lines) scope out quiet_rest bound in
        let test_unset : (c : ℕ) → Off c here Size (assigns_in_optional test) → c < next_cell Co.made →
        sets_in c Ct.lines ≡ false = λ c off l.
        (optional_unset program c calls set.up (set.unset c) F here test fits.0 off Co.made
        (out_below c _ _ l)).is in
        let step_unset : (c : ℕ) → Off c here Size (assigns_in_optional step) → c < next_cell Co.made →
        sets_in c Cs.lines ≡ false = λ c off l.
        (optional_unset program c calls set.up (set.unset c) F here step fits.1 off Ct.made
        (out_below c _ _ (omega (arith, l, b)))).is in
        let below : (c : ℕ) → Known program kernel here scope c → c < next_cell Co.made = λ c kn. let z =
        known_below program kernel here Size scope (next_cell m) c within low kn in omega (arith, z, a) in
        let no_y : (c : ℕ) → c < next_cell m → IsFree c Co.exit (way_out true true body) =
        λ c l s w. apart_is program kernel one other fn calls here set c Co.exit
        (λ q. let r = opened_is (way_out true true body) exit m (s, w) in omega (arith, l, q, r)) in
        let answer_low : (t : IntType) → F.result ≡ Some t → here.answer < next_cell m = λ t s. pend.result_below t s in
        let answer_above : here.base + Size ≤ here.answer = let z = set.answer_is in omega (arith, z) in
        let x_free : W → (r : Test) → r ≡ true → (t : IntType) → F.result ≡ Some t → nat_eq exit here.answer ≡ false =
        λ w r z t s. apart_is program kernel one other fn calls here set exit here.answer (pend.no_result w t s) in
        let S = Settled program kernel one other fn calls here set scope body in
        let T = OptionalSteady test in
        let Ends : Cells → Cells → Type 0 = λ x y. (S → T → IsSome (way_out true true body) → x Co.exit ≡ y Co.exit) ×
        Outside program kernel one other fn calls here set W exit x y in
        let Q : Cells → Cells → Type 0 =
        λ x y. (Settled program kernel one other fn calls here set scope (Loop site first test step body) → W →
        x exit ≡ y exit) × Ans x y in
        let round_go : (out' : ℕ → Test) (p' q' : Cells) → Bound program kernel here scope out' →
        Equal E (λ c. live_in c Cr.lines (out' c)) p' q' →
        (IsSome (way_out true true body) → p' Co.exit ≡ q' Co.exit)
        → Outside program kernel one other fn calls here set W exit p' q' → Go out' Cr.lines Ends p' q' =
        λ out' p' q' bound' al' y0 outside. round_together program kernel one other fn calls here set
        (IsSome (way_out true true body)) W Co.exit exit scope out' Ct.lines Cs.lines Cb.lines Ct.value Cb.made S
        T (assigns_in_optional test) (assigns_in_optional step) (assigns body) (returns body)
        within (omega (arith, low, a, b, d, e)) bound'
        (λ o x y bd l. together_then E one other o Ct.lines (λ x' y'. OptionalEqual program kernel one other fn calls
        here set test Ct.value.atom x' y') (λ x' y'. T →
        atom_value x' Ct.value.atom ≡ atom_value y' Ct.value.atom) x y
        (optional_together program kernel one other fn calls here set test scope Co.made o x y fits.0 k.1 within
        (omega (arith, low, a)) gt bd l) (λ x' y' d2 e2 z oe t. optional_equal test Ct.value.atom x' y' oe t))
        (λ o x y bd l. together_then E one other o Cs.lines (λ x' y'. OptionalEqual program kernel one other fn calls
        here set step Cs.value.atom x' y') Anything x y
        (optional_together program kernel one other fn calls here set step scope Ct.made o x y fits.1 k.2 within
        (omega (arith, low, a, b)) gs bd l) (λ x' y' d2 e2 z oe. tt))
        (λ o x y bd l ex an. go_body o x y (bound_after scope body o bd) l ex an)
        quiet_test quiet_step quiet_body (λ c ev. atom_not_read program kernel (next_cell Co.made) (next_cell Ct.made)
        Ct.value.atom c in_test ev)
        (λ c ev kn off. test_unset c (off_known program kernel one other fn calls here set scope c
        (assigns_in_optional test) kn off) (below c kn))
        (λ c ev kn off. step_unset c (off_known program kernel one other fn calls here set scope c
        (assigns_in_optional step) kn off) (below c kn))
        (λ c ev kn off. (statement_unset program c calls set.up (set.unset c) F here Co.exit body fits.2 (free_y c ev)
        (known_clear program kernel one other fn calls here set scope c (assigns body) (declarations body)
        (returns body) within kn off (λ x has. undeclared body scope x sound has)) Cs.made
        (out_below c _ _ (let z = below c kn in omega (arith, z, b, d)))).is)
        (λ w. test_unset exit (off_above exit Size here (assigns_in_optional test) (pend.above w))
        (let z = pend.below w in omega (arith, z, a)))
        (λ w. step_unset exit (off_above exit Size here (assigns_in_optional step) (pend.above w))
        (let z = pend.below w in omega (arith, z, a)))
        (λ w. (statement_unset program exit calls set.up (set.unset exit) F here Co.exit body fits.2
        (no_y exit (pend.below w)) (above_clear program kernel one other fn calls here set exit (assigns body)
        (declarations body) (returns body) (pend.above w) (x_free w (returns body))) Cs.made
        (out_below exit _ _ (let z = pend.below w in omega (arith, z, a, b, d)))).is)
        (λ w. test_unset Co.exit (off_above Co.exit Size here (assigns_in_optional test) (pend_o.above w))
        (pend_o.below w)) (λ w. step_unset Co.exit (off_above Co.exit Size here (assigns_in_optional step)
        (pend_o.above w)) (pend_o.below w))
        (λ t s. test_unset here.answer (off_above here.answer Size here (assigns_in_optional test) answer_above)
        (let z = answer_low t s in omega (arith, z, a)))
        (λ t s. step_unset here.answer (off_above here.answer Size here (assigns_in_optional step) answer_above)
        (let z = answer_low t s in omega (arith, z, a)))
        (λ t s r. (statement_unset program here.answer calls set.up (set.unset here.answer) F here Co.exit body fits.2
        (no_y here.answer (answer_low t s)) (above_clear program kernel one other fn calls here set
        here.answer (assigns body) (declarations body) (returns body) answer_above
        (λ z. absurd (let u : true ≡ false = sym z ∙ r in cc))) Cs.made
        (out_below here.answer _ _ (let z = answer_low t s in omega (arith, z, a, b, d)))).is)
        (λ x has nv asg. (
          (covers_settled program kernel one other fn calls here set scope body k.3.under).variables x
              has (part.assigned x asg) nv,
          steady_test test k.0 x has nv asg,
        ))
        (λ r nv. (
          (covers_settled program kernel one other fn calls here set scope body k.3.under).result
              (part.returned r) nv,
          steady_result test k.0 r nv,
        ))
        (λ x z. part.assigned x (or_right (assigns_in_optional test x) (assigns_in_optional step x || assigns body x)
        (or_left (assigns_in_optional step x) (assigns body x) z)))
        (covers_settled program kernel one other fn calls here set scope body k.3.under) pend_y pend_x
        (λ w k2 q2. let z = pend.below w in let r = opened_is (way_out true true body) exit m k2 in
        omega (arith, z, q2, r))
        site first (way_out true true body) (λ s w. (s, w)) (λ n k2. none-some k2.0 (sym n ∙ k2.1)) gr p' q' al' y0
        outside in
        together_seq E one other out Co.lines (joined_to Cr.lines Cw.lines) (λ x y. (IsSome (way_out true true body) →
        x Co.exit ≡ y Co.exit) × Outside program kernel one other fn calls here set W exit x y) Q p q al
        (λ al'. together_then E one other (λ c. live_in c (joined_to Cr.lines Cw.lines) (out c)) Co.lines
        (λ x y. IsSome (way_out true true body) →
        x Co.exit ≡ y Co.exit) (λ x y. (IsSome (way_out true true body) → x Co.exit ≡ y Co.exit) ×
        Outside program kernel one other fn calls here set W exit x y) p q
        (opened_together program kernel one other fn calls here set (way_out true true body) exit m
        (λ c. live_in c (joined_to Cr.lines Cw.lines) (out c)) p q go_ al')
        (λ x y d2 e2 z ex. (
          ex,
          outside_kept program kernel one other fn calls here set W exit Co.lines p q x y
              (λ w. (opened_unset exit (way_out true true body) exit m (out_below exit _ _ (pend.below w))).is)
              (λ t s. (opened_unset here.answer (way_out true true body) exit m
              (out_below here.answer _ _ (answer_low t s))).is) d2 e2 (x0, ans),
        )))
        (λ x y d2 e2 al1 h1. together_seq E one other out Cr.lines Cw.lines Ends Q x y al1
        (λ al2. round_go (λ c. live_in c Cw.lines (out c)) x y bound_w al2 h1.0 h1.1)
        (λ x2 y2 d3 e3 al2 h2. outward_together program kernel one other fn calls here set W
        (Settled program kernel one other fn calls here set scope (Loop site first test step body))
        (way_out false false body) Co.exit exit Cr.made out x2 y2 grown opens
        (pending_more program kernel one other fn calls here set W exit (next_cell Cb.made) (next_cell Cr.made) f
        pend_x) (λ s w. let z = pend_y.below (more_ways body s w) in omega (arith, z, f)) al2
        (λ s w st. let c = loop_calm st s w in h2.0 c.0 c.1 (more_ways body s w)) h2.1))
      where
        steady_test : (t : Option Expression) →
            TurnUnder (InBody program fn) (UnderBody program fn) (BackBody program fn) scope t step body → (x : ℕ) →
            Has scope x → (Varies program (AVariable fn x) → ⊥) →
            (assigns_in_optional t x || (assigns_in_optional step x || assigns body x)) ≡ true → OptionalSteady t
        steady_test None u x has nv asg = tt
        steady_test (Some t) u x has nv asg = λ v. nv (assigned_under (turn_condition scope t step body) u v has asg)

        steady_result : (t : Option Expression) →
            TurnUnder (InBody program fn) (UnderBody program fn) (BackBody program fn) scope t step body →
            returns body ≡ true → (Varies program (AResult fn) → ⊥) → OptionalSteady t
        steady_result None u r nv = tt
        steady_result (Some t) u r nv = λ v. nv (return_under (turn_condition scope t step body) u v r)
