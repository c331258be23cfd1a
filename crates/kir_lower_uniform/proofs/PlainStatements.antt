-- Both go together through what a statement has beside its parts: expressions as statements, the stores of a filled
-- array, ways out that become pending, and the lines of a list up to its first way out and behind it.
use Rattle.std.proofs.Common.{◌≡◌, ℕ, ◌+◌, ◌<◌, ◌≤◌, pos, length, List, [], ◌∷◌, Option, Some, None, refl, sym, ap, ◌∙◌}
use Rattle.std.proofs.Common.{subst, arith, inl, inr}
use Rattle.std.proofs.Common.{Bool as Test, true, false}
use Rattle.std.specs.Prelude.{nat_eq, not, ◌&&◌, ◌||◌}
use Rattle.std.proofs.lemmas.Bool.{or_right, and_parts}
use Rattle.wg_num.specs.declared.types.IntType.{IntType}
use Rattle.wg_num.specs.declared.types.IntType.TheVariants.{Int}
use Rattle.cl_model.specs.Tree.{Expression, Statement, Do, Statements, Program, Function}
use Rattle.cl_model.specs.Calls.{function_at}
use Rattle.cl_model.specs.Valid.{Scope, ReturnFits, StatementFits, AllFit, scope_after, all_declarations}
use Rattle.cl_model.specs.Varying.{assigns_in, some_assigns, some_returns}
use Rattle.kir.specs.declared.line.Atom.{Atom}
use Rattle.kir.specs.Tree.{Copy, Lines, joined_to, OfValue, Kernel}
use Rattle.kir.specs.Live.{reads, live_in}
use Rattle.kir_lower.specs.declared.places.Value.{Value}
use Rattle.kir_lower.specs.Made.{Made, Instance, next_cell, with_cell, int}
use Rattle.kir_lower.specs.Ways.{first_of, way_out_of_all, declares}
use Rattle.kir_lower.specs.Actions.{set_to, initial_lines, fallen_code}
use Rattle.kir_lower.specs.Code.{Calls, expression_code, Guarded, before_rest, set_exit, list_code}
use Rattle.kir_uniform.specs.Uniform.{sets_in}
use Rattle.kir_uniform.specs.Does.{Cells, Who, Does}
use Rattle.kir_uniform.proofs.Living.{or_either}
use Rattle.kir_uniform.proofs.Alike.{same_self, put_here, put_other}
use Rattle.diverge_sound.proofs.Parts.{good_do}
use Rattle.diverge_sound.proofs.Values.{InBody, UnderBody, BackBody}
use Rattle.kir_lower_shape.proofs.Quiet.{or_false}
use Rattle.kir_lower_shape.proofs.Steps.{IsFree}
use Rattle.kir_lower_shape.proofs.Scoped.{free_first, free_second}
use Rattle.kir_lower_shape.proofs.Absent.{next_more}
use Rattle.kir_lower_shape.proofs.AbsentCode.{list_up}
use Rattle.kir_lower_shape.proofs.Across.{out_below}
use Rattle.kir_lower_uniform.specs.Together.{Equal, Anything, Together}
use Rattle.kir_lower_uniform.proofs.Places.{together_then}
use Rattle.kir_lower_uniform.proofs.Rules.{together_seq, together_set}
use Rattle.kir_lower_uniform.proofs.UnsetSteps.{unset_then}
use Rattle.kir_lower_uniform.proofs.UnsetCode.{Clear, clear_left, clear_right, expression_unset, plain_unset}
use Rattle.kir_lower_uniform.proofs.UnsetCode.{list_unset}
use Rattle.kir_lower_uniform.proofs.Ground.{Even, Grown, value_not_even}
use Rattle.kir_lower_uniform.proofs.Fresh.{AtomIn}
use Rattle.kir_lower_uniform.proofs.Setting.{Setting, Bound, ScopeWithin}
use Rattle.kir_lower_uniform.proofs.Evaluated.{off_above, ValueEqual, expression_together, plain_together}
use Rattle.kir_lower_uniform.proofs.Scopes.{same_scope}
use Rattle.kir_lower_uniform.proofs.Guards.{AnswerEqual, Settled, AllSettled, Covers, covers_given, covers_same}
use Rattle.kir_lower_uniform.proofs.Exits.{Pending, apart_is, Outside, outside_kept}
use Rattle.kir_lower_uniform.proofs.Loops.{GR, StatementGo}

module _ (program : Program) (kernel : Kernel) (one other : Who) (fn : ℕ) (calls : Calls) (here : Instance)
    (set : Setting program kernel one other fn calls here) where
  abbrev F : Function
  F = function_at program fn

  abbrev Size : ℕ
  Size = length (function_at program fn).variables

  abbrev E : ℕ → Type 0
  E = Even program kernel

  abbrev Go : (ℕ → Test) → Lines → (Cells → Cells → Type 0) → Cells → Cells → Type 0
  Go out lines Q p q = Together (Even program kernel) one other out lines Q p q

  abbrev Ans : Cells → Cells → Type 0
  Ans p q = AnswerEqual program kernel one other fn calls here set p q

  abbrev Pend : Type 0 → ℕ → ℕ → Type 0
  Pend W exit n = Pending program kernel one other fn calls here set W exit n

  abbrev Within : Scope → Type 0
  Within scope = ScopeWithin program kernel here Size scope

  abbrev B : Scope → (ℕ → Test) → Type 0
  B scope out = Bound program kernel here scope out

  pub answer_above : here.base + Size ≤ here.answer
  answer_above = let z = set.answer_is in omega (arith, z)

  -- the stores of a filled array
  pub stores_together : (site : ℕ) (element : IntType) (array k : ℕ) (values : List Value) (out : ℕ → Test) (Q : Cells →
      Cells → Type 0) (p q : Cells) →
      Equal E (λ c. live_in c (initial_lines site element array k values) (out c)) p q → Q p q
      → Go out (initial_lines site element array k values) Q p q
  stores_together site element array k [] out Q p q al h = (al, h)
  stores_together site element array k (v ∷ values) out Q p q al h = (
    al,
    stores_together site element array (k + 1) values out Q p q
        (λ c e l. al c e (or_right (false || reads c v.atom) _ l)) h,
  )

  -- what is live before a variable's cell is set
  pub bound_set : (x : ℕ) (a : Atom) (scope : Scope) (out : ℕ → Test) → ((c : ℕ) → E c → reads c a ≡ false) →
      B (x ∷ scope) out → B scope (λ c. live_in c (set_to (here.base + x) a) (out c))
  bound_set x a scope out no_read bound c e l =
      elim (or_either (reads c a) _ l) [
        | inl r ↦ absurd (let f = no_read c e in let z : true ≡ false = sym r ∙ f in cc)
        | inr r ↦ let k = and_parts (not (nat_eq c (here.base + x))) (out c) r in
            elim (bound c e k.1) [
              | inl y ↦ elim y.1 [
                | inl s ↦ absurd (let t : c ≡ here.base + x = y.2 ∙ ap (λ z. here.base + z) (sym s) in clash t k.0)
                | inr i ↦ inl (y.0, i, y.2)
              ]
              | inr below ↦ inr below
            ]
      ]
    where
      clash : c ≡ here.base + x → not (nat_eq c (here.base + x)) ≡ true → ⊥
      clash t n = let s : nat_eq c (here.base + x) ≡ true = subst (λ z. nat_eq c z ≡ true) t (same_self c) in
          let u : false ≡ true = sym (ap not s) ∙ n in cc

  -- ---- expressions as statements

  module _ (W : Type 0) (exit : ℕ) where
    abbrev pub Ends : Scope → Statement → Cells → Cells → Type 0
    Ends scope s a b = (Settled program kernel one other fn calls here set scope s → W → a exit ≡ b exit)
        × AnswerEqual program kernel one other fn calls here set a b

    -- an expression leaves what is pending and the result
    pub expression_outside : (e : Expression) (scope : Scope) (m : Made) (p q a b : Cells) →
        StatementFits program F (Do e) → Pend W exit (next_cell m) →
        Does one (expression_code calls here e m).lines p a → Does other (expression_code calls here e m).lines q b
        → Outside program kernel one other fn calls here set W exit p q → Outside program kernel one other fn calls here
        set W exit a b
    expression_outside e scope m p q a b h pend d k outside =
        outside_kept program kernel one other fn calls here set W exit (expression_code calls here e m).lines p q a b
        (λ w. by h exit (pend.above w) (pend.below w))
        (λ t s. by h here.answer answer_above (pend.result_below t s)) d k outside
      where
        by : StatementFits program F (Do e) → (c : ℕ) → here.base + Size ≤ c → c < next_cell m →
            sets_in c (expression_code calls here e m).lines ≡ false
        by (inl h) c l u = (expression_unset program c calls set.up (set.unset c) F here e h.0 h.1
            (off_above c Size here (assigns_in e) l) m (out_below c _ _ u)).is
        by (inr h) c l u = (plain_unset program c calls set.up (set.unset c) F here e h
            (off_above c Size here (assigns_in e) l) m (out_below c _ _ u)).is

    pub do_together : (e : Expression) (scope : Scope) (m : Made) → StatementFits program F (Do e) →
        GR program kernel one other fn calls here set scope (Do e) → Within scope → here.base + Size ≤ next_cell m →
        Pend W exit (next_cell m) → Grown program kernel (expression_code calls here e m).made
        → StatementGo program kernel one other fn calls here set W exit scope (Do e)
        (expression_code calls here e m).lines
    do_together e scope m (inl h) good within low pend g out p q bound al x0 ans =
        together_then E one other out (expression_code calls here e m).lines
        (λ a b. ValueEqual program kernel one other fn calls here set e
        (expression_code calls here e m).value.atom a b) (Ends scope (Do e)) p q
        (expression_together program kernel one other fn calls here set e h.0 scope m out p q h.1
        (good_do (InBody program fn) (UnderBody program fn) (BackBody program fn) scope e good) within
        low g bound al)
        (λ a b d k z t. let o = expression_outside e scope m p q a b (inl h) pend d k (x0, ans) in ((λ st. o.0), o.1))
    do_together e scope m (inr h) good within low pend g out p q bound al x0 ans =
        together_then E one other out (expression_code calls here e m).lines Anything (Ends scope (Do e)) p q
        (plain_together program kernel one other fn calls here set e scope m out p q h
        (good_do (InBody program fn) (UnderBody program fn) (BackBody program fn) scope e good) within
        low g bound al)
        (λ a b d k z t. let o = expression_outside e scope m p q a b (inr h) pend d k (x0, ans) in ((λ st. o.0), o.1))

    -- a way out becomes pending
    pub exit_together : (scope : Scope) (s : Statement) (k n : ℕ) → W → Pend W exit n → (out : ℕ → Test) (p q : Cells) →
        Equal E (λ c. live_in c (set_exit exit k) (out c)) p q → Ans p q → Go out (set_exit exit k) (Ends scope s) p q
    exit_together scope s k n w pend out p q al ans =
        together_set E one other out exit (Copy (int (pos k))) (Ends scope s) p q al (λ e l. absurd (pend.plain w e)) (
          (λ st w'. put_here p exit exit (pos k) (same_self exit)
              ∙ sym (put_here q exit exit (pos k) (same_self exit))),
          λ t r nv. let u = apart_is program kernel one other fn calls here set exit here.answer
              (pend.no_result w t r) in put_other p exit here.answer (pos k) u ∙
              (ans t r nv ∙ sym (put_other q exit here.answer (pos k) u)),
        )

  -- what a statement before others makes
  pub rest_grown : (exit : ℕ) (declared : Test) (way : Option ℕ) (lines : Lines) (g : Guarded) →
      Grown program kernel (before_rest exit declared way lines g).made → Grown program kernel g.made
  rest_grown exit true way lines g h = h
  rest_grown exit false None lines g h = h
  rest_grown exit false (Some site) lines g h = h

  -- of the branches of an if
  pub branches_unset : (exit : ℕ) (yes_ no_ : Statements) (m : Made) (c : ℕ) → AllFit program F yes_ →
      AllFit program F no_ → IsFree c exit (first_of (way_out_of_all true true yes_) (way_out_of_all true true no_))
      → Clear c here Size F.result (λ x. some_assigns yes_ x || some_assigns no_ x) (λ x. all_declarations yes_ x +
      all_declarations no_ x) (some_returns yes_ || some_returns no_) → c < next_cell m
      → (sets_in c (joined_to (list_code calls here exit false yes_ m).inside
      (list_code calls here exit false yes_ m).rest)
      || sets_in c (joined_to (list_code calls here exit false no_
      (list_code calls here exit false yes_ m).made).inside
      (list_code calls here exit false no_ (list_code calls here exit false yes_ m).made).rest)) ≡ false
  branches_unset exit yes_ no_ m c h k free clear l =
      let cy = list_code calls here exit false yes_ m in
      let cn = list_code calls here exit false no_ cy.made in
      let b = list_up calls set.up here exit false yes_ m in
      let y = list_unset program c calls set.up (set.unset c) F here exit false yes_ h (free_first c exit _ _ free)
      (clear_left c here Size F.result (some_assigns yes_) (some_assigns no_) (all_declarations yes_)
      (all_declarations no_) (some_returns yes_) (some_returns no_) clear) m (out_below c _ _ l) in
      let n = list_unset program c calls set.up (set.unset c) F here exit false no_ k
      (free_second c exit (way_out_of_all true true yes_) _ free)
      (clear_right c here Size F.result (some_assigns yes_) (some_assigns no_) (all_declarations yes_)
      (all_declarations no_) (some_returns yes_) (some_returns no_) clear) cy.made
      (out_below c _ _ (omega (arith, l, b))) in
      or_false _ _ (unset_then c cy.inside cy.rest y.0 y.1).is (unset_then c cn.inside cn.rest n.0 n.1).is

  -- all lines of a list
  pub list_all_unset : (exit : ℕ) (list : Statements) (m : Made) (c : ℕ) → AllFit program F list →
      IsFree c exit (way_out_of_all true true list) →
      Clear c here Size F.result (some_assigns list) (all_declarations list) (some_returns list) → c < next_cell m
      → sets_in c (joined_to (list_code calls here exit false list m).inside
      (list_code calls here exit false list m).rest) ≡ false
  list_all_unset exit list m c h free clear l =
      let cl = list_code calls here exit false list m in
      let y = list_unset program c calls set.up (set.unset c) F here exit false list h free clear m
      (out_below c _ _ l) in
      (unset_then c cl.inside cl.rest y.0 y.1).is

  -- behind a statement that is not declared under a guard
  pub cover_after : (guarded : Test) (scope : Scope) (s : Statement) (C : Type 0) → (guarded ≡ false → C) →
      (guarded && declares s) ≡ false → Covers program kernel one other fn calls here set C scope →
      Covers program kernel one other fn calls here set C (scope_after scope s)
  cover_after false scope s C free nd cover =
      covers_given program kernel one other fn calls here set C (scope_after scope s) (free refl)
  cover_after true scope s C free nd cover =
      covers_same program kernel one other fn calls here set C scope (scope_after scope s) (same_scope scope s nd) cover

  pub return_result : (result : Option IntType) (e : Expression) → ReturnFits program F result (Some e) →
      (t : IntType) × (result ≡ Some t)
  return_result None e h = absurd h
  return_result (Some t) e h = (t, refl)

  -- all lines of a list, from those up to the first way out and the guarded ones
  pub list_from : (W : Type 0) (exit : ℕ) (list : Statements) (scope : Scope) (m : Made) (out : ℕ →
      Test) (p q : Cells) → Equal E (λ c.
      live_in c (joined_to (list_code calls here exit false list m).inside
      (list_code calls here exit false list m).rest) (out c)) p q
      → (Equal E (λ c. live_in c (list_code calls here exit false list m).inside
      (live_in c (list_code calls here exit false list m).rest (out c))) p q
      → Go (λ c. live_in c (list_code calls here exit false list m).rest (out c))
      (list_code calls here exit false list m).inside
      (λ a b. (AllSettled program kernel one other fn calls here set scope list → W → a exit ≡ b exit) ×
      Ans a b) p q)
      → ((a b : Cells) → Equal E (λ c. live_in c (list_code calls here exit false list m).rest (out c)) a b →
      (Unit {0} → AllSettled program kernel one other fn calls here set scope list → W → a exit ≡ b exit) →
      Ans a b
      → Go out (list_code calls here exit false list m).rest
      (λ x y. (Unit {0} → AllSettled program kernel one other fn calls here set scope list → W → x exit ≡ y exit)
      × Ans x y) a b)
      → Go out (joined_to (list_code calls here exit false list m).inside
      (list_code calls here exit false list m).rest)
      (λ a b. (AllSettled program kernel one other fn calls here set scope list → W → a exit ≡ b exit) ×
      Ans a b) p q
  list_from W exit list scope m out p q al inside_ behind_ =
      let cl = list_code calls here exit false list m in
      let A = AllSettled program kernel one other fn calls here set scope list in
      together_seq E one other out cl.inside cl.rest (λ a b. (A → W → a exit ≡ b exit) × Ans a b)
      (λ a b. (A → W → a exit ≡ b exit) × Ans a b) p q al inside_
      (λ a b d e al1 k. together_then E one other out cl.rest (λ x y. (Unit {0} → A → W → x exit ≡ y exit) ×
      Ans x y) (λ x y. (A → W → x exit ≡ y exit) × Ans x y) a b (behind_ a b al1 (λ c. k.0) k.1)
      (λ x y d2 e2 z t. (t.0 tt, t.1)))

  -- whether the next arm is fallen into stands in a new cell
  pub fallen_in : (way : Option ℕ) (Y : ℕ) (entered : Value) (m : Made) →
      AtomIn program kernel 0 (next_cell m) entered.atom → Grown program kernel (fallen_code way Y entered m).made →
      AtomIn program kernel 0 (next_cell (fallen_code way Y entered m).made) (fallen_code way Y entered m).value.atom
  fallen_in None Y entered m h g = h
  fallen_in (Some s) Y entered m h g =
      let m1 = with_cell m OfValue Int in
      let one_more = next_more m OfValue Int in
      let two_more = next_more m1 OfValue Int in
      (omega arith, omega (arith, two_more), value_not_even program kernel m1 Int g)
