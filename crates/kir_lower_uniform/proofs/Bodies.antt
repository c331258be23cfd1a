-- Both go together through the body of a function.
use Rattle.std.proofs.Common.{◌≡◌, ℕ, zero, suc, ◌+◌, ◌<◌, ◌≤◌, ℤ, pos, List, [], ◌∷◌, length, Option, Some, None}
use Rattle.std.proofs.Common.{slice_get, refl, sym, ap, ◌∙◌, subst, arith, inr}
use Rattle.std.proofs.Common.{Bool as Test, true, false}
use Rattle.std.specs.Prelude.{nat_eq}
use Rattle.std.proofs.lemmas.Option.{none-some, same_Some}
use Rattle.wg_num.specs.declared.types.IntType.{IntType}
use Rattle.cl_model.specs.declared.program.VarKind.{VarKind}
use Rattle.cl_model.specs.Tree.{Program, Function}
use Rattle.cl_model.specs.Calls.{function_at}
use Rattle.cl_model.specs.Valid.{IsValid, numbers_below}
use Rattle.cl_model.specs.Varying.{AResult, Varies}
use Rattle.kir.specs.Tree.{Argument, Copy, Lines, NoLine, joined_to, OfValue, Kernel}
use Rattle.kir.specs.Live.{work_reads, live_in}
use Rattle.kir.specs.Steps.{atom_value}
use Rattle.kir.specs.Lowering.{Named}
use Rattle.kir_lower.specs.declared.places.Value.{Value}
use Rattle.kir_lower.specs.Made.{Made, Instance, next_cell, constant}
use Rattle.kir_lower.specs.Ways.{way_out_of_all}
use Rattle.kir_lower.specs.Actions.{opened}
use Rattle.kir_lower.specs.Code.{Calls, list_code, result_code, body_code}
use Rattle.kir_lower.specs.Whole.{names_at, way_behind, instance_at, with_instance, parameter_lines, call_code}
use Rattle.kir_lower.specs.Whole.{bound_lines}
use Rattle.kir_uniform.specs.Uniform.{sets_in}
use Rattle.kir_uniform.specs.Does.{Cells, Who, put}
use Rattle.kir_uniform.proofs.Alike.{same_self, put_here, kept, AreFellows}
use Rattle.kir_lower_shape.specs.Names.{AreNamed}
use Rattle.kir_lower_shape.proofs.Absent.{next_more, IsOut, out_within}
use Rattle.kir_lower_shape.proofs.AbsentSteps.{opened_more}
use Rattle.kir_lower_shape.proofs.AbsentCode.{opened_up, list_up}
use Rattle.kir_lower_shape.proofs.AbsentCalls.{calls_up, instance_cells, result_up}
use Rattle.kir_lower_shape.proofs.Arguments.{length_take}
use Rattle.kir_lower_shape.proofs.Below.{valid_any}
use Rattle.kir_lower_shape.proofs.Scoped.{has_below}
use Rattle.kir_lower_shape.proofs.Across.{out_below}
use Rattle.kir_lower_uniform.specs.Together.{Equal, Anything, Together}
use Rattle.kir_lower_uniform.proofs.Places.{together_then}
use Rattle.kir_lower_uniform.proofs.Rules.{put_equal, together_seq, together_set}
use Rattle.kir_lower_uniform.proofs.UnsetSteps.{Unset, unset_none, unset_then, unset_set, opened_unset}
use Rattle.kir_lower_uniform.proofs.UnsetCode.{CallsUnset, list_unset}
use Rattle.kir_lower_uniform.proofs.Ground.{Even, Grown, value_not_even, list_back, opened_back}
use Rattle.kir_lower_uniform.proofs.Fresh.{AtomIn, AllIn}
use Rattle.kir_lower_uniform.proofs.Setting.{Setting, Bound, ScopeWithin}
use Rattle.kir_lower_uniform.proofs.Acts.{apart_below, atom_put}
use Rattle.kir_lower_uniform.proofs.Guards.{AnswerEqual, AllSettled, covers_given}
use Rattle.kir_lower_uniform.proofs.Exits.{IsSome, Pending, pending_opened, opened_together}
use Rattle.kir_lower_uniform.proofs.Parts.{GL}
use Rattle.kir_lower_uniform.proofs.PlainStatements.{list_from}
use Rattle.kir_lower_uniform.proofs.Statements.{inside_together, behind_together}

-- ---- what a call sets

parameters_unset : (c base : ℕ) (values : List Value) → IsOut c base (base + length values) →
    Unset c (parameter_lines base values)
parameters_unset c base [] out = unset_none c
parameters_unset c base (v ∷ values) out =
    unset_set c base (Copy v.atom) _ (out base (omega arith) (omega arith))
    (parameters_unset c (base + 1) values (out_within c _ _ _ _ out (omega arith) (omega arith)))

result_unset : (c : ℕ) (result : Option IntType) (m : Made) →
    IsOut c (next_cell m) (next_cell (result_code result m).made) → Unset c (result_code result m).lines
result_unset c None m out = unset_none c
result_unset c (Some of) m out = let one_more = next_more m OfValue of in
    unset_set c _ _ NoLine (out (next_cell m) (omega arith) (omega (arith, one_more))) (unset_none c)

result_more : (result : Option IntType) (m : Made) (t : IntType) → result ≡ Some t →
    next_cell m < next_cell (result_code result m).made
result_more None m t e = absurd (none-some t e)
result_more (Some of) m t e = let one_more = next_more m OfValue of in omega (arith, one_more)

-- calls set no cell but those that they make
pub calls_unset : (program : Program) (names : List (List Named)) → IsValid program → AreNamed program names →
    (c depth : ℕ) → CallsUnset program c (call_code program names depth)
unfolding call_code
calls_unset program names valid named c zero here site function roots values m count out = unset_none c
calls_unset program names valid named c (suc depth) here site function roots values m count out =
    let calls = call_code program names depth in
    let way = way_behind program here site function roots in
    let f = function_at program function in
    let fits = valid_any program valid function in
    let there = instance_at way f m in
    let inside = with_instance way (names_at names function) f m in
    let exits = way_out_of_all true true f.body in
    let cr = result_code f.result inside in
    let co = opened exits 0 cr.made in
    let cl = list_code calls there co.exit false f.body co.made in
    let size = instance_cells program names named way function m in
    let few = length_take f.parameters f.variables fits.parameters in
    let lim = fits.parameters in
    let a = result_up f.result inside in
    let b = opened_up exits 0 cr.made in
    let d = list_up calls (calls_up program names depth) there co.exit false f.body co.made in
    let own : (x : ℕ) → x < length f.variables → nat_eq c (next_cell m + x) ≡ false =
    λ x less. out (next_cell m + x) (omega arith) (omega (arith, less, size, a, b, d)) in
    let free : (s : ℕ) → exits ≡ Some s → nat_eq c co.exit ≡ false =
    λ s e. exit_free exits cr.made c s e (out_within c _ _ _ _ out (omega (arith, size, a)) (omega (arith, d))) in
    let l = list_unset program c calls (calls_up program names depth) (calls_unset program names valid named c depth)
    f there co.exit false f.body fits.types free (record {
      assigned = λ x less e. absurd (let z = own x less in let y : true ≡ false = sym e ∙ z in cc);
      declared = λ x less e. absurd (let z = own x less in let y : true ≡ false = sym e ∙ z in cc);
      answer = λ r t s. out there.answer (omega arith) (let z = result_more f.result inside t s in
          omega (arith, size, z, b, d));
    }) co.made (out_within c _ _ _ _ out (omega (arith, size, a, b)) (omega arith)) in
    unset_then c (parameter_lines (next_cell m) values) _
    (parameters_unset c (next_cell m) values (out_within c _ _ _ _ out (omega arith) (omega (
      arith,
      count,
      few,
      lim,
      size,
      a,
      b,
      d,
    ))))
    (unset_then c cr.lines _ (result_unset c f.result inside (out_within c _ _ _ _ out (omega (arith, size))
    (omega (arith, b, d))))
    (unset_then c co.lines _ (opened_unset c exits 0 cr.made (out_within c _ _ _ _ out (omega (arith, size, a))
    (omega (arith, d)))) (unset_then c cl.inside cl.rest l.0 l.1)))
  where
    exit_free : (exits : Option ℕ) (n : Made) (c s : ℕ) → exits ≡ Some s →
        IsOut c (next_cell n) (next_cell (opened exits 0 n).made) → nat_eq c (opened exits 0 n).exit ≡ false
    exit_free None n c s e out = absurd (none-some s e)
    exit_free (Some t) n c s e out = let z = opened_more (Some t) 0 n s e in out (next_cell n) (omega arith) z

-- ---- a body

module _ (program : Program) (kernel : Kernel) (one other : Who) where
  abbrev E : ℕ → Type 0
  E = Even program kernel

  abbrev Go : (ℕ → Test) → Lines → (Cells → Cells → Type 0) → Cells → Cells → Type 0
  Go out lines Q p q = Together (Even program kernel) one other out lines Q p q

  -- parameters are set to arguments
  pub parameters_together : (cell n a : ℕ) (values : List Value) (out : ℕ → Test) (p q : Cells) → n ≤ cell →
      AllIn program kernel a n values → Equal E (λ c. live_in c (parameter_lines cell values) (out c)) p q
      → ((k : ℕ) (v : Value) → slice_get values k ≡ Some v → E (cell + k) →
      atom_value p v.atom ≡ atom_value q v.atom) → Go out (parameter_lines cell values) Anything p q
  parameters_together cell n a [] out p q low within al same = (al, tt)
  parameters_together cell n a (v ∷ values) out p q low within al same =
      let x = atom_value p v.atom in
      let y = atom_value q v.atom in
      let zero_more : cell ≡ cell + 0 = omega arith in
      let eq : E cell → x ≡ y = λ e. same 0 v refl (subst E zero_more e) in (
        al,
        parameters_together (cell + 1) n a values out (put p cell x) (put q cell y) (omega (arith, low)) within.1
            (put_equal E one other cell (λ c. live_in c (parameter_lines (cell + 1) values) (out c))
            (λ c. work_reads c (Copy v.atom)) p q x y (λ e l. eq e) al)
            (λ k w at e. let more : (cell + 1) + k ≡ cell + suc k = omega arith in
            value_put values within.1 k w at p x ∙
            (same (suc k) w at (subst E more e) ∙ sym (value_put values within.1 k w at q y))),
      )
    where
      value_put : (list : List Value) → AllIn program kernel a n list → (k : ℕ) (w : Value) →
          slice_get list k ≡ Some w → (f : Cells) (z : ℤ) → atom_value (put f cell z) w.atom ≡ atom_value f w.atom
      value_put [] h k w at f z = absurd (none-some w at)
      value_put (u ∷ list) h zero w at f z =
          atom_put program kernel a n w.atom f cell z (subst (λ (t : Value). AtomIn program kernel a n t.atom)
          (same_Some u w at) h.0) (λ c l r. apart_below cell c (omega (arith, r, low)))
      value_put (u ∷ list) h (suc k) w at f z = value_put list h.1 k w at f z

  -- those of the kernel to what the launch binds to them
  pub bound_together : (cell n : ℕ) (kinds : List VarKind) (out : ℕ → Test) (p q : Cells) →
      AreFellows kernel one other → Equal E (λ c. live_in c (bound_lines cell n kinds) (out c)) p q →
      Go out (bound_lines cell n kinds) Anything p q
  bound_together cell n [] out p q fellows al = (al, tt)
  bound_together cell n (kind ∷ kinds) out p q fellows al = (
    al,
    bound_together (cell + 1) (n + 1) kinds out (put p cell (one.arguments n)) (put q cell (other.arguments n)) fellows
        (put_equal E one other cell (λ c. live_in c (bound_lines (cell + 1) (n + 1) kinds) (out c))
        (λ c. work_reads c (Argument n)) p q (one.arguments n) (other.arguments n) (λ e l. fellows.arguments n)
        al),
  )

  module _ (valid : IsValid program) (fn : ℕ) (calls : Calls) (here : Instance)
      (set : Setting program kernel one other fn calls here) where
    abbrev F : Function
    F = function_at program fn

    abbrev Size : ℕ
    Size = length (function_at program fn).variables

    abbrev Ans : Cells → Cells → Type 0
    Ans p q = AnswerEqual program kernel one other fn calls here set p q

    result_together : (result : Option IntType) → result ≡ F.result → (inside : Made) →
        here.answer ≡ next_cell inside → (out : ℕ → Test) (p q : Cells) →
        Grown program kernel (result_code result inside).made →
        Equal E (λ c. live_in c (result_code result inside).lines (out c)) p q
        → Go out (result_code result inside).lines Ans p q
    result_together None same inside here_is out p q g al = (al, λ t s nv. absurd (none-some t (same ∙ s)))
    result_together (Some of) same inside here_is out p q g al =
        together_set E one other out (next_cell inside) (Copy (constant (pos 0) of).atom) Ans p q al (λ e l. refl)
        (λ t s nv. ap (put p (next_cell inside) (pos 0)) here_is ∙
        (put_here p (next_cell inside) (next_cell inside) (pos 0) (same_self (next_cell inside)) ∙
        sym (ap (put q (next_cell inside) (pos 0)) here_is ∙
        put_here q (next_cell inside) (next_cell inside) (pos 0) (same_self (next_cell inside)))))

    result_value : (result : Option IntType) → result ≡ F.result → (inside : Made) → here.answer ≡ next_cell inside →
        (p q : Cells) → Ans p q → (Varies program (AResult fn) → ⊥) →
        atom_value p (result_code result inside).value.atom ≡ atom_value q (result_code result inside).value.atom
    result_value None same inside here_is p q an nv = refl
    result_value (Some of) same inside here_is p q an nv = ap p (sym here_is) ∙ (an of (sym same) nv ∙ ap q here_is)

    result_plain : (result : Option IntType) (inside : Made) → Grown program kernel (result_code result inside).made →
        (t : IntType) → result ≡ Some t → E (next_cell inside) → ⊥
    result_plain None inside g t e = absurd (none-some t e)
    result_plain (Some of) inside g t e = value_not_even program kernel inside of g

    pub body_together : (inside : Made) → here.base + Size ≡ next_cell inside → (out : ℕ → Test) (p q : Cells) →
        Grown program kernel (body_code calls here F inside).made → ((c : ℕ) → E c → out c ≡ true → c < here.base) →
        Equal E (λ c. live_in c (body_code calls here F inside).lines (out c)) p q
        → Go out (body_code calls here F inside).lines (λ a b. (Varies program (AResult fn) → ⊥) →
        atom_value a (body_code calls here F inside).value.atom ≡
        atom_value b (body_code calls here F inside).value.atom) p q
    body_together inside size out p q g bound al =
        let fits = valid_any program valid fn in
        let cr = result_code F.result inside in
        let way = way_out_of_all true true F.body in
        let co = opened way 0 cr.made in
        let cl = list_code calls here co.exit false F.body co.made in
        let lines = joined_to cl.inside cl.rest in
        let scope = numbers_below F.parameters in
        let go_ = list_back program kernel calls set.back here co.exit false F.body co.made g in
        let gr = opened_back program kernel way 0 cr.made go_ in
        let a = result_up F.result inside in
        let b = opened_up way 0 cr.made in
        let here_is : here.answer ≡ next_cell inside = set.answer_is ∙ size in
        let pend_r : Pending program kernel one other fn calls here set ⊥ 0 (next_cell cr.made) = record {
          above = λ w. absurd w;
          below = λ w. absurd w;
          plain = λ w. absurd w;
          no_result = λ w. absurd w;
          result_below = λ t s. let z = result_more F.result inside t s in omega (arith, z, here_is);
          result_plain = λ t s e. result_plain F.result inside gr t s (subst E here_is e);
        } in
        let pend = pending_opened program kernel one other fn calls here set ⊥ 0 way cr.made (omega (arith, size, a))
        go_ pend_r in
        let good : GL program kernel one other fn calls here set scope F.body =
        record { parts = λ e i. i; under = λ c i. i; back = λ e i. i; names = fits.scopes } in
        let within : ScopeWithin program kernel here Size scope = λ x has. let z =
        has_below F.parameters x has in let y = fits.parameters in omega (arith, z, y) in
        let bound' : Bound program kernel here scope out = λ c e l. inr (bound c e l) in
        let Q : Cells → Cells → Type 0 =
        λ x y. (Varies program (AResult fn) → ⊥) → atom_value x cr.value.atom ≡ atom_value y cr.value.atom in
        let ends : Cells → Cells → Type 0 =
        λ x y. (AllSettled program kernel one other fn calls here set scope F.body → IsSome way →
        x co.exit ≡ y co.exit) × Ans x y in
        together_seq E one other out cr.lines (joined_to co.lines lines) Ans Q p q al
        (λ al'. result_together F.result refl inside here_is (λ c. live_in c (joined_to co.lines lines) (out c)) p q
        gr al')
        (λ a1 b1 d1 e1 al1 an1. together_seq E one other out co.lines lines (λ x y. IsSome way →
        x co.exit ≡ y co.exit) Q a1 b1 al1
        (λ al'. opened_together program kernel one other fn calls here set way 0 cr.made
        (λ c. live_in c lines (out c)) a1 b1 go_ al')
        (λ a2 b2 d2 e2 al2 ex.
        let un : (t : IntType) → F.result ≡ Some t → sets_in here.answer co.lines ≡ false =
        λ t s. (opened_unset here.answer way 0 cr.made (out_below here.answer _ _ (pend_r.result_below t s))).is in
        let an2 : Ans a2 b2 = λ t s nv. kept one co.lines here.answer (un t s) a1 a2 d2 ∙
        (an1 t s nv ∙ sym (kept other co.lines here.answer (un t s) b1 b2 e2)) in
        together_then E one other out lines ends Q a2 b2
        (list_from program kernel one other fn calls here set (IsSome way) co.exit F.body scope co.made out a2 b2 al2
        (λ al_. inside_together program kernel one other fn calls here set (IsSome way) co.exit false F.body scope
        co.made fits.types good (record { assigned = λ x z. z; returned = λ z. z }) within (omega (
          arith,
          size,
          a,
          b,
        )) pend (λ s w. (s, w)) g out a2 b2 bound' al_ ex an2)
        (λ a_ b_ al_ pre_ an_. behind_together program kernel one other fn calls here set (IsSome way) co.exit false
        F.body scope co.made fits.types good (record { assigned = λ x z. z; returned = λ z. z }) within
        (omega (arith, size, a, b)) pend (λ s w. (s, w)) g out
        (Unit {0}) (λ z. tt) (covers_given program kernel one other fn calls here set (Unit {0}) scope tt) a_ b_
        bound' al_ pre_ an_))
        (λ x y d3 e3 z t nv. result_value F.result refl inside here_is x y t.1 nv)))
