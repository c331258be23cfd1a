-- A steady kernel is even.
use Rattle.std.proofs.Common.{◌≡◌, ◌⊎◌, ℕ, zero, suc, ℤ, pos, negsuc, List, [], ◌∷◌, Option, Some, cond, refl, sym}
use Rattle.std.proofs.Common.{ap, ◌∙◌, subst, inl, inr, take}
use Rattle.std.specs.Prelude.{◌||◌, ◌/◌, ◌%◌, nat_lt, slice_get, length}
use Rattle.std.specs.Prelude.{Bool as Test, true, false}
use Rattle.std.proofs.lemmas.Bool.{true≢false, or_left, or_right, eq-eqb}
use Rattle.std.proofs.lemmas.Option.{none-some, same_Some}
use Rattle.wg_num.specs.Bytes.{size_of, value_of_bytes}
use Rattle.work_items.specs.Memory.{Access, loaded}
use Rattle.cl_model.specs.declared.program.Query.{Query}
use Rattle.cl_model.specs.declared.program.Query.TheVariants.{WorkDim, GlobalId, LocalId, GroupId, GlobalSize}
use Rattle.cl_model.specs.declared.program.Query.TheVariants.{LocalSize, NumGroups, GlobalOffset}
use Rattle.cl_model.specs.declared.program.Root.{Root}
use Rattle.cl_model.specs.declared.program.Root.TheVariants.{Param, Constant, Local, Private}
use Rattle.cl_model.specs.declared.program.Space.TheVariants as space
use Rattle.cl_model.specs.declared.program.VarKind.{VarKind}
use Rattle.cl_model.specs.declared.program.VarKind.TheVariants.{Scalar, Pointer}
use Rattle.cl_model.specs.declared.launch.Bound.{Bound}
use Rattle.cl_model.specs.declared.launch.Bound.TheVariants as bound
use Rattle.cl_model.specs.Sizes.{Launch, group_of, groups_at, groups_of, product, answer_within, answer_outside}
use Rattle.cl_model.specs.Sizes.{answer_of as asked_of}
use Rattle.cl_model.specs.Calls.{kernel_of}
use Rattle.cl_model.specs.Objects.{IsConstant, a_table, a_buffer, is_buffer, is_constant_pointer, argument_object}
use Rattle.cl_model.specs.Objects.{object_of, kernel_objects, start_memory}
use Rattle.cl_model.specs.Valid.{parameter_kinds}
use Rattle.cl_model.specs.Fitting.{FitsProgram, ArgumentFits, ArgumentsFit}
use Rattle.cl_model.specs.Varying.{is_own}
use Rattle.kir.specs.declared.line.Atom.{Atom}
use Rattle.kir.specs.Tree.{Lines, Kernel}
use Rattle.kir.specs.Places.{Behind, IntoChosen, IntoOther, IntoTest, ToAnswer, IntoBody, Place, Point, Tasks, NoTask}
use Rattle.kir.specs.Places.{LinesAt, AnswerAt, begun_in, point_of, lines_at, behind, chosen_of, other_of, test_of}
use Rattle.kir.specs.Places.{body_of, answer_of, first_of, others_of, past, in_chosen, in_other, at_answer, in_test}
use Rattle.kir.specs.Places.{in_body, tasks_at}
use Rattle.kir.specs.Live.{reads, live_in, live_now, live_behind, live_at}
use Rattle.kir.specs.Steps.{shell_of}
use Rattle.kir.specs.Uniformity.{IsEven}
use Rattle.kir_uniform.specs.Uniform.{is_constant_root, tested, IsSteady}
use Rattle.kir_uniform.specs.Does.{Cells}
use Rattle.kir_uniform.specs.Path.{InAnswer, Comes, after_at}
use Rattle.kir_uniform.proofs.Living.{or_either, into_body}
use Rattle.kir_uniform.proofs.Alike.{AreFellows}
use Rattle.kir_uniform.proofs.Places.{places_alike}
use Rattle.kir_uniform.proofs.Reached.{who_of, OnWay, on_way}

-- ---- two items of one group

asked_within : (launch : Launch) (one other : ℕ) → group_of launch one ≡ group_of launch other →
    (what : Query) (d : ℕ) → is_own what ≡ false → answer_within launch one what d ≡ answer_within launch other what d
asked_within launch one other same WorkDim d h = refl
asked_within launch one other same GlobalId d h = cc h
asked_within launch one other same LocalId d h = cc h
asked_within launch one other same GroupId d h =
    ap (λ (g : ℕ). g / product (take d (groups_of launch)) % groups_at launch d) same
asked_within launch one other same GlobalSize d h = refl
asked_within launch one other same LocalSize d h = refl
asked_within launch one other same NumGroups d h = refl
asked_within launch one other same GlobalOffset d h = refl

asked : (launch : Launch) (one other : ℕ) → group_of launch one ≡ group_of launch other → (what : Query) (d : ℤ) →
    is_own what ≡ false → asked_of launch one what d ≡ asked_of launch other what d
asked launch one other same what (pos d) h =
    ap (λ n. pos (cond (nat_lt d 3) n (answer_outside launch what))) (asked_within launch one other same what d h)
asked launch one other same what (negsuc d) h = refl

-- a buffer is bound to a parameter that points to constant memory
bound_constant : (launch : Launch) (kinds : List VarKind) (args : List Bound) → ArgumentsFit launch kinds args →
    (n : ℕ) → is_constant_pointer (slice_get kinds n) ≡ true → (b : ℕ) × (slice_get args n ≡ Some (bound.Buffer b))
bound_constant launch [] args h n c = cc c
bound_constant launch (kind ∷ kinds) [] h n c = absurd h
bound_constant launch (kind ∷ kinds) (a ∷ args) h (suc n) c = bound_constant launch kinds args h.1 n c
bound_constant launch (kind ∷ kinds) (a ∷ args) h zero c = here kind a h.0 c
  where
    here : (kind : VarKind) (a : Bound) → ArgumentFits launch kind a → is_constant_pointer (Some kind) ≡ true →
        (b : ℕ) × (◌≡◌ {A = Option Bound} (Some a) (Some (bound.Buffer b)))
    here (Pointer space.Constant element root) (bound.Buffer b) f c = (b, refl)
    here (Pointer space.Constant element root) (bound.Value v) f c = absurd f
    here (Pointer space.Constant element root) (bound.Local n) f c = absurd f
    here (Pointer space.Global element root) a f c = cc c
    here (Pointer space.Local element root) a f c = cc c
    here (Pointer space.Private element root) a f c = cc c
    here (Scalar t) a f c = cc c

module _ (kernel : Kernel) (launch : Launch) (fits : FitsProgram (shell_of kernel) launch) (buffers : List (List ℕ))
    (one other : ℕ) (same : group_of launch one ≡ group_of launch other) where
  -- a root of constant memory names one object to both
  object_same : (root : Root) → is_constant_root kernel root ≡ true
      → (object_of (shell_of kernel) launch one [] (kernel_objects (shell_of kernel) launch one) root ≡
      object_of (shell_of kernel) launch other [] (kernel_objects (shell_of kernel) launch other) root)
      × IsConstant (shell_of kernel) launch
      (object_of (shell_of kernel) launch one [] (kernel_objects (shell_of kernel) launch one) root)
  object_same (Param n) c =
      let kinds_same : is_constant_pointer (slice_get (parameter_kinds (kernel_of (shell_of kernel))) n) ≡ true =
      shell_pointer n c in
      let b = bound_constant launch (parameter_kinds (kernel_of (shell_of kernel))) launch.args fits.arguments n
      kinds_same in
      let is : b.0 ≡ argument_object (shell_of kernel) launch (group_of launch one) n (slice_get launch.args n) =
      sym (ap (λ o. argument_object (shell_of kernel) launch (group_of launch one) n o) b.1) in (
        ap (λ g. argument_object (shell_of kernel) launch g n (slice_get launch.args n)) same,
        a_buffer n kinds_same (ap (λ o.
            is_buffer o (argument_object (shell_of kernel) launch (group_of launch one) n
            (slice_get launch.args n))) b.1 ∙ eq-eqb b.0 _ is),
      )
    where
      take_all : (xs : List VarKind) → take (length xs) xs ≡ xs
      take_all [] = refl
      take_all (x ∷ xs) = ap (λ ys. x ∷ ys) (take_all xs)

      shell_pointer : (n : ℕ) → is_constant_pointer (slice_get kernel.params n) ≡ true →
          is_constant_pointer (slice_get (parameter_kinds (kernel_of (shell_of kernel))) n) ≡ true
      shell_pointer n c = ap (λ (ks : List VarKind). is_constant_pointer (slice_get ks n)) (take_all kernel.params) ∙ c
  object_same (Constant n) c = (refl, a_table n c refl)
  object_same (Local n) c = cc c
  object_same (Private n) c = cc c

  pub fellows : AreFellows kernel (who_of kernel launch buffers one) (who_of kernel launch buffers other)
  fellows = record {
    asks = λ what d h. asked launch one other same what d h;
    arguments = λ n. refl;
    constants =
        λ element root index v w c x y.
        let o = object_same root c in
        let at : ℕ → Access = λ object. record { object = object; size = size_of element; index = index } in
        let a = x.1 o.1 in
        let b = y.1 (subst (IsConstant (shell_of kernel) launch) o.0 o.1) in
        sym x.2 ∙ (ap (value_of_bytes element) (a ∙
        (ap (λ k. loaded (start_memory (shell_of kernel) launch buffers) (at k)) o.0 ∙ sym b)) ∙ y.2);
  }

-- ---- what is live at a place

module _ (text : Lines) where
  -- what is left to do at a place, and what is live behind it
  abbrev pub IsAfter : Place → Tasks → Type 0
  IsAfter at NoTask = Unit {0}
  IsAfter at (LinesAt p lines k) = (lines ≡ lines_at text at) × ((c : ℕ) → live_now c k ≡ after_at text at c)
  IsAfter at (AnswerAt p test answer body n k) = ⊥

  abbrev pub IsAnswer : Place → Tasks → Type 0
  IsAnswer at NoTask = Unit {0}
  IsAnswer at (LinesAt p lines k) = ⊥
  IsAnswer at (AnswerAt p test answer body n k) = (test ≡ test_of (lines_at text at)) ×
      (answer ≡ answer_of (lines_at text at)) × (body ≡ body_of (lines_at text at)) ×
      ((c : ℕ) → live_now c k ≡ live_in c (behind (lines_at text at)) (after_at text at c))

  past_after : (at : Place) (t : Tasks) → IsAfter at t → IsAfter (Behind ∷ at) (past t)
  past_after at NoTask h = tt
  past_after at (LinesAt p lines k) h = (ap behind h.0, h.1)
  past_after at (AnswerAt p test answer body n k) h = absurd h

  -- behind the first line
  rest_live : (at p : Place) (lines : Lines) (k : Tasks) → IsAfter at (LinesAt p lines k) → (c : ℕ) →
      live_in c (behind lines) (live_now c k) ≡ live_in c (behind (lines_at text at)) (after_at text at c)
  rest_live at p lines k h c =
      ap (λ l. live_in c (behind l) (live_now c k)) h.0 ∙ ap (live_in c (behind (lines_at text at))) (h.1 c)

  chosen_after : (at : Place) (t : Tasks) → IsAfter at t → IsAfter (IntoChosen ∷ at) (in_chosen t)
  chosen_after at NoTask h = tt
  chosen_after at (LinesAt p lines k) h = (ap chosen_of h.0, λ c. rest_live at p lines k h c)
  chosen_after at (AnswerAt p test answer body n k) h = absurd h

  other_after : (at : Place) (t : Tasks) → IsAfter at t → IsAfter (IntoOther ∷ at) (in_other t)
  other_after at NoTask h = tt
  other_after at (LinesAt p lines k) h = (ap other_of h.0, λ c. rest_live at p lines k h c)
  other_after at (AnswerAt p test answer body n k) h = absurd h

  -- at a loop's answer
  answer_live : (at p : Place) (lines : Lines) (k : Tasks) (n : ℕ) → IsAfter at (LinesAt p lines k) → (c : ℕ)
      → live_now c (at_answer n (LinesAt p lines k)) ≡ tested (test_of (lines_at text at))
      (answer_of (lines_at text at)) (body_of (lines_at text at))
      (λ d. live_in d (behind (lines_at text at)) (after_at text at d)) c
  answer_live at p lines k n h c =
      ap (λ l. reads c (answer_of l) ||
      (live_in c (behind lines) (live_now c k) || live_in c (body_of l) (live_in c (test_of l) false))) h.0
      ∙ ap (λ b. reads c (answer_of (lines_at text at)) ||
      (b || live_in c (body_of (lines_at text at)) (live_in c (test_of (lines_at text at)) false)))
      (rest_live at p lines k h c)

  test_after : (at : Place) (t : Tasks) (n : ℕ) → IsAfter at t → IsAfter (IntoTest ∷ at) (in_test n t)
  test_after at NoTask n h = tt
  test_after at (LinesAt p lines k) n h = (ap test_of h.0, λ c. answer_live at p lines k n h c)
  test_after at (AnswerAt p test answer body m k) n h = absurd h

  body_after : (at : Place) (t : Tasks) (n : ℕ) → IsAfter at t → IsAfter (IntoBody ∷ at) (in_body n t)
  body_after at NoTask n h = tt
  body_after at (LinesAt p lines k) n h = (
    ap body_of h.0,
    λ c. ap (λ l. live_in c (test_of l) (live_now c (at_answer n (LinesAt p lines k)))) h.0 ∙
        ap (live_in c (test_of (lines_at text at))) (answer_live at p lines k n h c),
  )
  body_after at (AnswerAt p test answer body m k) n h = absurd h

  answer_after : (at : Place) (t : Tasks) (n : ℕ) → IsAfter at t → IsAnswer at (at_answer n t)
  answer_after at NoTask n h = tt
  answer_after at (LinesAt p lines k) n h =
      (ap test_of h.0, ap answer_of h.0, ap body_of h.0, λ c. rest_live at p lines k h c)
  answer_after at (AnswerAt p test answer body m k) n h = absurd h

  -- a place behind a loop's answer is none: the ways of the text that are left to do begin elsewhere
  abbrev pub At : Place → Tasks → Type 0
  At [] t = IsAfter [] t
  At (ToAnswer ∷ at) t = IsAnswer at t
  At (Behind ∷ at) t = IsAfter (Behind ∷ at) t
  At (IntoChosen ∷ at) t = IsAfter (IntoChosen ∷ at) t
  At (IntoOther ∷ at) t = IsAfter (IntoOther ∷ at) t
  At (IntoTest ∷ at) t = IsAfter (IntoTest ∷ at) t
  At (IntoBody ∷ at) t = IsAfter (IntoBody ∷ at) t

  behind_answer : (at : Place) (t : Tasks) → IsAnswer at t → (past t ≡ NoTask) × (in_chosen t ≡ NoTask) ×
      (in_other t ≡ NoTask)
  behind_answer at NoTask h = (refl, refl, refl)
  behind_answer at (LinesAt p lines k) h = absurd h
  behind_answer at (AnswerAt p test answer body n k) h = (refl, refl, refl)

  in_answer : (at : Place) (t : Tasks) (n : ℕ) → IsAnswer at t → (in_test n t ≡ NoTask) × (in_body n t ≡ NoTask) ×
      (at_answer n t ≡ NoTask)
  in_answer at NoTask n h = (refl, refl, refl)
  in_answer at (LinesAt p lines k) n h = absurd h
  in_answer at (AnswerAt p test answer body m k) n h = (refl, refl, refl)

  -- each leg, from wherever it begins
  leg_behind : (at : Place) (t : Tasks) → At at t → At (Behind ∷ at) (past t)
  leg_behind [] t h = past_after [] t h
  leg_behind (ToAnswer ∷ at) t h = subst (IsAfter (Behind ∷ ToAnswer ∷ at)) (sym (behind_answer at t h).0) tt
  leg_behind (Behind ∷ at) t h = past_after (Behind ∷ at) t h
  leg_behind (IntoChosen ∷ at) t h = past_after (IntoChosen ∷ at) t h
  leg_behind (IntoOther ∷ at) t h = past_after (IntoOther ∷ at) t h
  leg_behind (IntoTest ∷ at) t h = past_after (IntoTest ∷ at) t h
  leg_behind (IntoBody ∷ at) t h = past_after (IntoBody ∷ at) t h

  leg_chosen : (at : Place) (t : Tasks) → At at t → At (IntoChosen ∷ at) (in_chosen t)
  leg_chosen [] t h = chosen_after [] t h
  leg_chosen (ToAnswer ∷ at) t h = subst (IsAfter (IntoChosen ∷ ToAnswer ∷ at)) (sym (behind_answer at t h).1) tt
  leg_chosen (Behind ∷ at) t h = chosen_after (Behind ∷ at) t h
  leg_chosen (IntoChosen ∷ at) t h = chosen_after (IntoChosen ∷ at) t h
  leg_chosen (IntoOther ∷ at) t h = chosen_after (IntoOther ∷ at) t h
  leg_chosen (IntoTest ∷ at) t h = chosen_after (IntoTest ∷ at) t h
  leg_chosen (IntoBody ∷ at) t h = chosen_after (IntoBody ∷ at) t h

  leg_other : (at : Place) (t : Tasks) → At at t → At (IntoOther ∷ at) (in_other t)
  leg_other [] t h = other_after [] t h
  leg_other (ToAnswer ∷ at) t h = subst (IsAfter (IntoOther ∷ ToAnswer ∷ at)) (sym (behind_answer at t h).2) tt
  leg_other (Behind ∷ at) t h = other_after (Behind ∷ at) t h
  leg_other (IntoChosen ∷ at) t h = other_after (IntoChosen ∷ at) t h
  leg_other (IntoOther ∷ at) t h = other_after (IntoOther ∷ at) t h
  leg_other (IntoTest ∷ at) t h = other_after (IntoTest ∷ at) t h
  leg_other (IntoBody ∷ at) t h = other_after (IntoBody ∷ at) t h

  leg_test : (at : Place) (t : Tasks) (n : ℕ) → At at t → At (IntoTest ∷ at) (in_test n t)
  leg_test [] t n h = test_after [] t n h
  leg_test (ToAnswer ∷ at) t n h = subst (IsAfter (IntoTest ∷ ToAnswer ∷ at)) (sym (in_answer at t n h).0) tt
  leg_test (Behind ∷ at) t n h = test_after (Behind ∷ at) t n h
  leg_test (IntoChosen ∷ at) t n h = test_after (IntoChosen ∷ at) t n h
  leg_test (IntoOther ∷ at) t n h = test_after (IntoOther ∷ at) t n h
  leg_test (IntoTest ∷ at) t n h = test_after (IntoTest ∷ at) t n h
  leg_test (IntoBody ∷ at) t n h = test_after (IntoBody ∷ at) t n h

  leg_body : (at : Place) (t : Tasks) (n : ℕ) → At at t → At (IntoBody ∷ at) (in_body n t)
  leg_body [] t n h = body_after [] t n h
  leg_body (ToAnswer ∷ at) t n h = subst (IsAfter (IntoBody ∷ ToAnswer ∷ at)) (sym (in_answer at t n h).1) tt
  leg_body (Behind ∷ at) t n h = body_after (Behind ∷ at) t n h
  leg_body (IntoChosen ∷ at) t n h = body_after (IntoChosen ∷ at) t n h
  leg_body (IntoOther ∷ at) t n h = body_after (IntoOther ∷ at) t n h
  leg_body (IntoTest ∷ at) t n h = body_after (IntoTest ∷ at) t n h
  leg_body (IntoBody ∷ at) t n h = body_after (IntoBody ∷ at) t n h

  leg_answer : (at : Place) (t : Tasks) (n : ℕ) → At at t → IsAnswer at (at_answer n t)
  leg_answer [] t n h = answer_after [] t n h
  leg_answer (ToAnswer ∷ at) t n h = subst (IsAnswer (ToAnswer ∷ at)) (sym (in_answer at t n h).2) tt
  leg_answer (Behind ∷ at) t n h = answer_after (Behind ∷ at) t n h
  leg_answer (IntoChosen ∷ at) t n h = answer_after (IntoChosen ∷ at) t n h
  leg_answer (IntoOther ∷ at) t n h = answer_after (IntoOther ∷ at) t n h
  leg_answer (IntoTest ∷ at) t n h = answer_after (IntoTest ∷ at) t n h
  leg_answer (IntoBody ∷ at) t n h = answer_after (IntoBody ∷ at) t n h

  pub at_place : (at : Place) (begun : List ℕ) → At at (tasks_at text at begun)
  at_place [] begun = (refl, λ c. refl)
  at_place (Behind ∷ at) begun = leg_behind at (tasks_at text at begun) (at_place at begun)
  at_place (IntoChosen ∷ at) begun = leg_chosen at (tasks_at text at begun) (at_place at begun)
  at_place (IntoOther ∷ at) begun = leg_other at (tasks_at text at begun) (at_place at begun)
  at_place (IntoTest ∷ at) begun =
      leg_test at (tasks_at text at (others_of begun)) (first_of begun) (at_place at (others_of begun))
  at_place (ToAnswer ∷ at) begun =
      leg_answer at (tasks_at text at (others_of begun)) (first_of begun) (at_place at (others_of begun))
  at_place (IntoBody ∷ at) begun =
      leg_body at (tasks_at text at (others_of begun)) (first_of begun) (at_place at (others_of begun))

  -- what is live at a place is live before its lines
  lines_live : (at : Place) (t : Tasks) → IsAfter at t → (c : ℕ) → live_behind c t ≡ true →
      live_in c (lines_at text at) (after_at text at c) ≡ true
  lines_live at NoTask h c l = absurd (true≢false (sym l))
  lines_live at (LinesAt p lines k) h c l =
      subst (λ b. live_in c (lines_at text at) b ≡ true) (h.1 c) (subst (λ x. live_in c x (live_now c k) ≡ true) h.0 l)
  lines_live at (AnswerAt p test answer body n k) h c l = absurd h

  -- and at an answer
  at_live : (at : Place) (t : Tasks) → IsAnswer at t → (c : ℕ) → live_behind c t ≡ true →
      tested (test_of (lines_at text at)) (answer_of (lines_at text at)) (body_of (lines_at text at))
      (λ d. live_in d (behind (lines_at text at)) (after_at text at d)) c ≡ true
  at_live at NoTask h c l = absurd (true≢false (sym l))
  at_live at (LinesAt p lines k) h c l = absurd h
  at_live at (AnswerAt p test answer body n k) h c l =
      let L = lines_at text at in
      let here : tested test answer body (λ d. live_now d k) c ≡ true =
      by (or_either (live_now c k) (live_in c body
      (live_in c test (reads c answer || (live_now c k || live_in c body (live_in c test false))))) l) in
      subst (λ b. (reads c (answer_of L) || (b || live_in c (body_of L) (live_in c (test_of L) false))) ≡ true) (h.3 c)
      (subst (λ (x : Lines). (reads c (answer_of L) || (live_now c k || live_in c x (live_in c (test_of L) false))) ≡
      true) h.2
      (subst (λ (x : Atom). (reads c x || (live_now c k || live_in c body (live_in c (test_of L) false))) ≡ true) h.1
      (subst (λ (x : Lines). (reads c answer || (live_now c k || live_in c body (live_in c x false))) ≡ true) h.0
      here)))
    where
      by : (live_now c k ≡ true) ⊎ (live_in c body
          (live_in c test (reads c answer || (live_now c k || live_in c body (live_in c test false)))) ≡ true) →
          tested test answer body (λ d. live_now d k) c ≡ true
      by (inl e) = or_right (reads c answer) (live_now c k || live_in c body (live_in c test false))
          (or_left (live_now c k) (live_in c body (live_in c test false)) e)
      by (inr e) = into_body c test answer body (λ d. live_now d k) e

  pub place_live : (at : Place) → At at (tasks_at text at []) → (c : ℕ) → live_at text at c ≡ true →
      live_in c (lines_at text at) (after_at text at c) ≡ true
  place_live [] h c l = lines_live [] (tasks_at text [] []) h c l
  place_live (Behind ∷ at) h c l = lines_live (Behind ∷ at) (tasks_at text (Behind ∷ at) []) h c l
  place_live (IntoChosen ∷ at) h c l = lines_live (IntoChosen ∷ at) (tasks_at text (IntoChosen ∷ at) []) h c l
  place_live (IntoOther ∷ at) h c l = lines_live (IntoOther ∷ at) (tasks_at text (IntoOther ∷ at) []) h c l
  place_live (IntoTest ∷ at) h c l = lines_live (IntoTest ∷ at) (tasks_at text (IntoTest ∷ at) []) h c l
  place_live (ToAnswer ∷ at) h c l = at_live at (tasks_at text (ToAnswer ∷ at) []) h c l
  place_live (IntoBody ∷ at) h c l = lines_live (IntoBody ∷ at) (tasks_at text (IntoBody ∷ at) []) h c l

-- ---- the whole

-- an item that stands at a point has come to it
pub comes_there : (kernel : Kernel) (launch : Launch) (buffers : List (List ℕ)) (number : ℕ) (tasks : Tasks)
    (f : Cells) → OnWay kernel launch buffers number tasks f → (point : Point) → point_of tasks ≡ Some point →
    Comes (who_of kernel launch buffers number) kernel.body (λ c. pos 0) point.at point.begun f
comes_there kernel launch buffers number NoTask f w point e = absurd (none-some point e)
comes_there kernel launch buffers number (LinesAt at lines rest) f w point e =
    subst (λ (p : Point). Comes (who_of kernel launch buffers number) kernel.body (λ c. pos 0) p.at p.begun f)
    (same_Some (record { at = at; begun = begun_in rest }) point e) w.1
comes_there kernel launch buffers number (AnswerAt at test answer body n rest) f w point e =
    subst (λ (p : Point). Comes (who_of kernel launch buffers number) kernel.body (λ c. pos 0) p.at p.begun f)
    (same_Some (record { at = ToAnswer ∷ at; begun = n ∷ begun_in rest }) point e)
    (w.3, w.5, subst (λ (l : Lines). InAnswer (who_of kernel launch buffers number) l n w.3 f) (sym w.4) w.6)

-- a steady kernel is even in these cells
pub even_if_steady : (kernel : Kernel) (even : ℕ → Test) → IsSteady kernel even (λ c. false) kernel.body →
    IsEven kernel (λ c. even c ≡ true)
even_if_steady kernel even st launch fits buffers fit one other lt lt' same deeds deeds' i j hi hj point pi pj stop c
    e live =
    places_alike kernel even (who_of kernel launch buffers one) (who_of kernel launch buffers other)
    (fellows kernel launch fits buffers one other same) st (λ d. pos 0) point.at point.begun i.cells j.cells
    (comes_there kernel launch buffers one i.tasks i.cells (on_way kernel launch buffers one deeds i hi) point pi)
    (comes_there kernel launch buffers other j.tasks j.cells (on_way kernel launch buffers other deeds' j hj)
    point pj)
    c e (place_live kernel.body point.at (at_place kernel.body point.at []) c live)
