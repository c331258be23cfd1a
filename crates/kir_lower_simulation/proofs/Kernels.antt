-- The lines of a lowered kernel do what the kernel does.
use Rattle.std.proofs.Common.{◌≡◌, ℕ, suc, ◌+◌, ◌<◌, ◌≤◌, ℤ, pos, List, [], ◌∷◌, length, Option, Some, None}
use Rattle.std.proofs.Common.{slice_get, refl, sym, ap, ◌∙◌, subst, arith, append-nil, true, false}
use Rattle.std.proofs.Common.{Bool as Test}
use Rattle.std.specs.Prelude.{nat_lt}
use Rattle.std.proofs.lemmas.Bool.{ltb-true, ltb-false}
use Rattle.work_items.specs.Items.{Goes, Ends}
use Rattle.cl_model.specs.declared.program.VarKind.{VarKind}
use Rattle.cl_model.specs.Tree.{Block, Statements, empty, also}
use Rattle.cl_model.specs.Agreement.{Owned, owned_by, IsInBody, IsScopedAt, IsInScopeList}
use Rattle.cl_model.specs.Calls.{kernel_of}
use Rattle.cl_model.specs.Meaning.{argument_value, start_item as program_start_item}
use Rattle.cl_model.specs.Task.{Nth, Point as ProgramPoint, Run, Item as ProgramItem, first_point}
use Rattle.cl_model.specs.Steps.{in_order, item_next as program_next}
use Rattle.cl_model.specs.Valid.{numbers_below, parameter_kinds, IsValid}
use Rattle.kir.specs.Tree.{Argument, Lines, NoLine, Kernel, joined_to}
use Rattle.kir.specs.Places.{Behind, Place, Tasks, NoTask, LinesAt, begun_in}
use Rattle.kir.specs.Homes.{IsCellOf}
use Rattle.kir.specs.Lowering.{Named, HasArrays, HasParts}
use Rattle.kir.specs.Matching.{value_in}
use Rattle.kir.specs.Meaning.{start_item}
use Rattle.kir.specs.Steps.{Item}
use Rattle.kir_lower.specs.Made.{next_cell}
use Rattle.kir_lower.specs.Actions.{Code}
use Rattle.kir_lower.specs.Code.{body_code}
use Rattle.kir_lower.specs.Whole.{names_at, with_instance, call_code, bound_lines, kernel_way, nothing_made, lowered_of}
use Rattle.kir_lower_shape.specs.Marks.{Way, Marks, NoMark, marks_then, all_marked, marks_at, marks_behind}
use Rattle.kir_lower_shape.specs.CodeMarks.{body_marks, call_marks, kernel_marks}
use Rattle.kir_lower_shape.specs.Names.{AreNamed}
use Rattle.kir_lower_shape.proofs.Arguments.{length_take}
use Rattle.kir_lower_shape.proofs.Below.{valid_any}
use Rattle.kir_lower_shape.proofs.Joined.{join_none}
use Rattle.kir_lower_shape.proofs.Variables.{get_there, variable_count}
use Rattle.kir_lower_simulation.specs.Setting.{Setting, Store, updated, kernel_item, Activation, inside, own_variable}
use Rattle.kir_lower_simulation.specs.Exits.{Exit, Continues, Breaks, Returns, unwound}
use Rattle.kir_lower_simulation.specs.Facts.{Rules}
use Rattle.kir_lower_simulation.specs.Bodies.{own_activation}
use Rattle.kir_lower_simulation.proofs.Lines.{plain_facts, Comes, at_once, over, own_value, updated_same, updated_other}
use Rattle.kir_lower_simulation.proofs.Lines.{end_line, stay_line}
use Rattle.kir_lower_simulation.proofs.Fixing.{has_owned}
use Rattle.kir_lower_simulation.proofs.Containing.{here_in_statement}
use Rattle.kir_lower_simulation.proofs.Expressions.{at_lines}
use Rattle.kir_lower_simulation.proofs.Guards.{marks_none}
use Rattle.kir_lower_simulation.proofs.Calling.{kernel_under_way, kernel_next}
use Rattle.kir_lower_simulation.proofs.Calls.{has_numbers, AllHeads, body_follows, calls_all}

module _ (S : Setting) (G : ℕ → Item → ProgramItem → Type 0) (R : Rules S G) where
  -- the parameters are set, while the program's item stands before its body
  module _ (D : Activation) (way : Way) (n : ℕ) (T : Lines) (tm : Marks) (k : Tasks) (j j1 : ProgramItem)
      (vars : Store) (many : ℕ) (base : D.here.base ≡ 0)
      (stands : first_point j.tasks ≡ Some (way (begun_in k))) (goes : program_next S.program S.launch j ≡ Goes j1)
      (own : (x : ℕ) → x < many → IsCellOf S.kernel (own_variable D x) (D.here.base + x)) (comes : (x : ℕ) →
      x < many → Comes S (own_variable D x) j1)
      (holds : (x : ℕ) → value_in j1.frames (own_variable D x) ≡ Some (vars x)) (is : (x : ℕ) →
      vars x ≡ argument_value (slice_get S.launch.args x)) where
    bound_follows : (kinds : List VarKind) (i cell number : ℕ) (at : Place) (cells : Store) → cell ≡ i → number ≡ i →
        many ≡ i + length kinds
        → marks_at S.marks at ≡ marks_then (all_marked way (bound_lines cell number kinds)) tm
        → ((at' : Place) (new : Store) → marks_at S.marks at' ≡ tm → ((x : ℕ) → x < i → new x ≡ cells x) →
        ((x : ℕ) → i ≤ x → x < many → new x ≡ vars x) → G n (kernel_item S new (LinesAt at' T k)) j)
        → G n (kernel_item S cells (LinesAt at (joined_to (bound_lines cell number kinds) T) k)) j
    bound_follows [] i cell number at cells e f total m go =
        go at cells m (λ x l. refl) (λ x a b. absurd (omega (arith, a, b, total)))
    bound_follows (kind ∷ kinds) i cell number at cells e f total m go =
        let w = argument_value (slice_get S.launch.args number) in
        let c1 = updated cells cell w in
        stay_line S G R D n cells at (Argument number) (joined_to (bound_lines (cell + 1) (number + 1) kinds) T) k j
        j1 (own_variable D i) cell way (marks_then (all_marked way (bound_lines (cell + 1) (number + 1) kinds)) tm)
        (λ v c is. refl) (subst (λ z. IsCellOf S.kernel (own_variable D i) z) (omega (arith, e, base))
        (own i (omega (arith, total)))) m stands goes (comes i (omega (arith, total)))
        (holds i ∙ ap (λ z. Some z) (is i ∙ ap (λ z. argument_value (slice_get S.launch.args z)) (sym f)))
        (bound_follows kinds (suc i) (cell + 1) (number + 1) (Behind ∷ at) c1 (omega (arith, e)) (omega (arith, f))
        (omega (arith, total)) (ap marks_behind m)
        (λ at' new m' before_ here_.
        go at' new m' (λ x l. before_ x (omega (arith, l)) ∙ updated_other cells cell w x (λ q. omega (arith, q, e, l)))
        (λ x a b. by_first x (nat_lt i x) refl a b new before_ here_)))
      where
        by_first : (x : ℕ) (t : Test) → nat_lt i x ≡ t → i ≤ x → x < many → (new : Store) →
            ((y : ℕ) → y < suc i → new y ≡ updated cells cell (argument_value (slice_get S.launch.args number)) y) →
            ((y : ℕ) → suc i ≤ y → y < many → new y ≡ vars y) → new x ≡ vars x
        by_first x true t a b new before_ here_ = let l = ltb-true i x t in here_ x (omega (arith, l)) b
        by_first x false t a b new before_ here_ =
            let l = ltb-false i x t in
            let same : x ≡ i = omega (arith, l, a) in
            let there : x ≡ cell = omega (arith, same, e) in
            let w = argument_value (slice_get S.launch.args number) in
            before_ x (omega (arith, same)) ∙ ap (updated cells cell w) there ∙ updated_same cells cell w
            ∙ ap (λ z. argument_value (slice_get S.launch.args z)) (let q : number ≡ x = omega (arith, same, f) in
            q) ∙ sym (is x)

  -- behind the last line both have ended
  both_end : (n : ℕ) (C : Activation) (at : Place) (cells vars : Store) (o : Option Exit) (v : ℤ) →
      G n (kernel_item S cells (LinesAt at NoLine NoTask)) (unwound o v (inside S C [] [] vars))
  both_end n C at cells vars o v =
      end_line S G R C n cells at NoTask (unwound o v (inside S C [] [] vars))
      (R.ends n (kernel_item S cells NoTask) (unwound o v (inside S C [] [] vars))
      (plain_facts S _ _ (record { reads_none = λ v c is. refl; sets_none = λ v c is. refl })) refl (last o))
    where
      last : (o : Option Exit) → program_next S.program S.launch (unwound o v (inside S C [] [] vars)) ≡ Ends
      last None = refl
      last (Some Continues) = refl
      last (Some Breaks) = refl
      last (Some Returns) = refl

  module _ (valid : IsValid S.program) (names : List (List Named)) (named : AreNamed S.program names)
      (arrays : HasArrays S.program S.kernel) (parts : HasParts S.program S.kernel)
      (lowered : S.kernel ≡ lowered_of S.program names) (marked : S.marks ≡ kernel_marks S.program names)
      (heads : AllHeads S G R valid names named arrays parts)
      (depth : ℕ) (deep : length S.program.functions ≡ suc depth) where
    -- a parameter is in scope where the body begins
    first_in_scope : (list : Statements) (vars : Store) (x : ℕ) →
        ((along : ProgramPoint) (v : Owned) →
        IsInScopeList (IsInBody S.program depth) S.program.kernel
        (owned_by S.program.kernel (numbers_below (kernel_of S.program).parameters)) list 0 along v →
        IsScopedAt S.program (Nth 0 ∷ along) v)
        → x < (kernel_of S.program).parameters →
        Comes S (own_variable (own_activation S names depth) x)
        (inside S (own_activation S names depth) (in_order [] 0 list []) [] vars)
    first_in_scope empty vars x scoped l = over refl
    first_in_scope (also s rest) vars x scoped l =
        at_once (record {
          point = Nth 0 ∷ [];
          stands = refl;
          scoped = scoped [] (record { function = S.program.kernel; variable = x })
              (here_in_statement (IsInBody S.program depth) S.program.kernel
              (owned_by S.program.kernel (numbers_below (kernel_of S.program).parameters)) s
              (record { function = S.program.kernel; variable = x })
              (has_owned S.program.kernel (numbers_below (kernel_of S.program).parameters) x
              (has_numbers (kernel_of S.program).parameters x l)));
          value = vars x;
          there = own_value S (own_activation S names depth) vars x;
        })

    -- the lines of the whole kernel, and their marks
    abbrev whole_code : ℕ → Code
    whole_code d = body_code (call_code S.program names d) (own_activation S names depth).here (kernel_of S.program)
        (with_instance (kernel_way S.program) (names_at names S.program.kernel) (kernel_of S.program) nothing_made)

    abbrev whole_marks : ℕ → Marks
    whole_marks d = body_marks (call_code S.program names d) (call_marks S.program names d)
        (own_activation S names depth).here (λ begun. []) (kernel_of S.program)
        (with_instance (kernel_way S.program) (names_at names S.program.kernel) (kernel_of S.program) nothing_made)

    kernel_body : S.kernel.body ≡ joined_to (bound_lines 0 0 (parameter_kinds (kernel_of S.program)))
        (whole_code (suc depth)).lines
    unfolding lowered_of
    kernel_body = ap (λ (z : Kernel). z.body) lowered ∙
        ap (λ d. joined_to (bound_lines 0 0 (parameter_kinds (kernel_of S.program))) (whole_code d).lines) deep

    all_marks : S.marks ≡ marks_then
        (all_marked (λ begun. []) (bound_lines 0 0 (parameter_kinds (kernel_of S.program)))) (whole_marks (suc depth))
    unfolding kernel_marks
    all_marks =
        marked ∙
        ap (λ d. marks_then (all_marked (λ begun. []) (bound_lines 0 0 (parameter_kinds (kernel_of S.program))))
        (whole_marks d)) deep

    all_cells : S.kernel.cells ≡ (whole_code (suc depth)).made.cells
    unfolding lowered_of
    all_cells = ap (λ (z : Kernel). z.cells) lowered ∙ ap (λ d. (whole_code d).made.cells) deep

    -- from the start the program's item follows
    pub kernel_follows : (n : ℕ) → G n (start_item S.kernel S.item) (program_start_item S.program S.launch S.item)
    kernel_follows n =
        let f = kernel_of S.program in
        let fits = valid_any S.program valid S.program.kernel in
        let C = own_activation S names depth in
        let m1 = with_instance (kernel_way S.program) (names_at names S.program.kernel) f nothing_made in
        let vars : Store = λ x. argument_value (slice_get S.launch.args x) in
        let first = bound_lines 0 0 (parameter_kinds f) in
        let code = whole_code (suc depth) in
        let under = kernel_under_way S valid names named arrays parts depth deep lowered in
        let all = calls_all S G R valid names named arrays parts heads C under in
        let j = inside S C (Run [] (Block f.body) ∷ []) [] vars in
        let j1 = inside S C (in_order [] 0 f.body []) [] vars in
        let many = length_take f.parameters f.variables fits.parameters in
        let count : next_cell m1 ≡ C.here.answer =
        variable_count [] [] S.program.kernel 0 (names_at names S.program.kernel) f.variables
        (named S.program.kernel) ∙ omega arith in
        let scoped : (p : ℕ) (along : ProgramPoint) (v : Owned) →
        IsInScopeList (IsInBody S.program depth) S.program.kernel
        (owned_by S.program.kernel (numbers_below f.parameters)) f.body p along v →
        IsScopedAt S.program (Nth p ∷ along) v =
        λ p along v h. subst (λ d. IsInBody S.program d S.program.kernel (Nth p ∷ along) v) (sym deep) h in
        subst (λ z. G n (kernel_item S (λ c. pos 0) (LinesAt [] z NoTask)) j)
        (join_none (joined_to first code.lines) ∙ sym kernel_body)
        (at_lines S G R C n (λ c. pos 0) [] first code.lines NoLine NoTask j
        (bound_follows C (λ begun. []) n (joined_to code.lines NoLine) (whole_marks (suc depth)) NoTask j j1 vars
        f.parameters refl refl refl
        (λ x l. let b = fits.parameters in let p = get_there f.variables x (omega (arith, l, b)) in under.own x p.0 p.1)
        (λ x l. first_in_scope f.body vars x (λ along v h. scoped 0 along v h) l) (λ x. own_value S C vars x)
        (λ x. refl)
        (parameter_kinds f) 0 0 0 [] (λ c. pos 0) refl refl (omega (arith, many)) all_marks
        (λ at1 c1 e1 before1 here1.
        R.task n _ j j1 refl refl
        (body_follows S G R valid names named arrays parts C under (call_code S.program names (suc depth))
        (call_marks S.program names (suc depth)) all m1 (λ begun. []) count refl refl refl
        (record { more = []; same = all_cells ∙ sym (append-nil code.made.cells) })
        (λ m' same. kernel_next S valid names named arrays parts depth deep lowered m' same)
        (λ begun p i same along v h. subst (λ z. IsScopedAt S.program (Nth z ∷ along) v)
        (let q : i ≡ p = omega (arith, same) in q) (scoped i along v h))
        (λ is_body. heads C under is_body all)
        n NoLine NoMark NoTask at1 c1 vars [] [] (λ x l. ap c1 (let q : 0 + x ≡ x = omega arith in q) ∙
        here1 x (omega arith) l) (e1 ∙ sym (marks_none (whole_marks (suc depth))))
        (λ at2 new vars2 o v e2 kept holds. both_end n C at2 new vars2 o v)))))
