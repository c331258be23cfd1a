-- Each pass keeps a valid kernel valid, and the constants of which a folded line computes are values of their types.
use Rattle.std.proofs.Common.{◌≡◌, ℕ, zero, suc, ℤ, pos, List, [], ◌∷◌, Option, Some, None, slice_get, map}
use Rattle.std.proofs.Common.{refl, sym, ap, ap₂}
use Rattle.std.proofs.Common.{◌∙◌, subst, arith, if◌then◌else◌, ◌⊎◌, inl, inr}
use Rattle.std.proofs.lemmas.Int.{ints}
use Rattle.std.proofs.lemmas.Bool.{and_parts, and_from, true≢false, eqb-true}
use Rattle.std.proofs.lemmas.Option.{same_Some, none-some}
use Rattle.std.specs.Prelude.{◌&&◌, ◌||◌, nat_eq, int_le, replicate, ◌≤ℤ◌}
use Rattle.std.specs.Prelude.{Bool as Test, true, false}
use Rattle.wg_num.specs.declared.types.IntType.{IntType}
use Rattle.wg_num.specs.declared.types.IntType.TheVariants.{Uint, Long}
use Rattle.wg_num.specs.declared.types.Bin.{Bin}
use Rattle.wg_num.specs.Wrap.{IsValue, lowest, highest}
use Rattle.wg_num.specs.Types.{is_value, same_type}
use Rattle.wg_num.specs.Operators.{is_shift, IsOperand}
use Rattle.wg_num.proofs.OperatorLaws.{value_wide}
use Rattle.wg_num.proofs.WrapLaws.{IsValue-wrap}
use Rattle.wg_num.proofs.BuiltinLaws.{IsValue-builtin}
use Rattle.cl_model.specs.declared.program.Root.{Root}
use Rattle.cl_model.specs.declared.program.Root.TheVariants as root
use Rattle.cl_model.specs.declared.program.VarKind.{VarKind}
use Rattle.cl_model.specs.declared.program.VarKind.TheVariants.{Scalar, Pointer}
use Rattle.cl_model.specs.Valid.{arity_of, binary_type, is_pointer}
use Rattle.cl_model.specs.Values.{is_zero}
use Rattle.kir.specs.declared.line.Atom.{Atom}
use Rattle.kir.specs.declared.line.Atom.TheVariants.{Const, Cell as CellAtom}
use Rattle.kir.specs.Tree.{Work, Unary, Binary, Builtin, Convert, Ask, Argument, Copy, Lines, NoLine, SetThen}
use Rattle.kir.specs.Tree.{LoadThen, StoreThen, ClearThen, IfThen, LoopThen, BarrierThen, joined_to, Kernel}
use Rattle.kir.specs.Fits.{has_type, has_some_type, type_of_cell, atom_type, right_fits, have_types, work_fits}
use Rattle.kir.specs.Fits.{work_type, type_of_parameter}
use Rattle.kir.specs.Fits.{cell_takes, can_load, can_store, is_private_array, is_site, lines_fit, roots_are_own}
use Rattle.kir.specs.Fits.{is_kernel}
use Rattle.kir.proofs.CellTypes.{has_type_is, is_value_is, unary_value, binary_value, zero_value}
use Rattle.kir_simplify.specs.Simple.{is_constant, is_foregone, is_plain, is_decided, is_set_once}
use Rattle.kir_simplify.specs.Simple.{is_unread}
use Rattle.kir_simplify.specs.Offsets.{is_offset, is_add, is_long_sum, is_zero_constant}
use Rattle.kir_simplify.specs.Computable.{IsValueOf, AreValuesOf, IsRightOf, IsComputable, AreComputable}
use Rattle.kir_simplify.specs.Faithful.{with_body}
use Rattle.kir_simplify.specs.Passes.{Known, nothing_known, learned, learnt, known_atom, known_work, constant_value}
use Rattle.kir_simplify.specs.Passes.{foregone_value, foregone_type, reduced_work, settled_work, copied, with_offsets}
use Rattle.kir_simplify.specs.Passes.{holds_offset, offsets_of, folded, folded_of, spliced}
use Rattle.kir_simplify.specs.Passes.{spliced_of, swept, swept_of}
use Rattle.kir_simplify.proofs.Reduced.{add_is}
use Rattle.kir_simplify.proofs.FoldedItems.{offsets_cases}

-- ---- what lines ask of a kernel is asked of all but its lines

module _ (kernel : Kernel) (body : Lines) where
  abbrev other : Kernel
  other = with_body kernel body

  atom_elsewhere : (a : Atom) → atom_type other a ≡ atom_type kernel a
  atom_elsewhere (Const value of) = refl
  atom_elsewhere (CellAtom c) = refl

  types_elsewhere : (types : List IntType) (atoms : List Atom) →
      have_types other types atoms ≡ have_types kernel types atoms
  types_elsewhere [] [] = refl
  types_elsewhere [] (a ∷ atoms) = refl
  types_elsewhere (t ∷ types) [] = refl
  types_elsewhere (t ∷ types) (a ∷ atoms) =
      ap₂ (λ x y. has_type t x && y) (atom_elsewhere a) (types_elsewhere types atoms)

  work_elsewhere : (work : Work) → work_fits other work ≡ work_fits kernel work
  work_elsewhere (Unary op of a) = ap (has_type of) (atom_elsewhere a)
  work_elsewhere (Binary op of a b) =
      ap₂ (λ x y. has_type of x && right_fits op of y) (atom_elsewhere a) (atom_elsewhere b)
  work_elsewhere (Builtin f of args) = types_elsewhere (replicate (arity_of f) of) args
  work_elsewhere (Convert to a) = ap has_some_type (atom_elsewhere a)
  work_elsewhere (Ask what dim) = ap (has_type Uint) (atom_elsewhere dim)
  work_elsewhere (Argument number) = refl
  work_elsewhere (Copy a) = ap has_some_type (atom_elsewhere a)

  result_elsewhere : (work : Work) → work_type other work ≡ work_type kernel work
  result_elsewhere (Unary op of a) = refl
  result_elsewhere (Binary op of a b) = refl
  result_elsewhere (Builtin f of args) = refl
  result_elsewhere (Convert to a) = refl
  result_elsewhere (Ask what dim) = refl
  result_elsewhere (Argument number) = refl
  result_elsewhere (Copy a) = atom_elsewhere a

  takes_elsewhere : (to : ℕ) (o : Option IntType) → cell_takes other to o ≡ cell_takes kernel to o
  takes_elsewhere to None = refl
  takes_elsewhere to (Some t) = refl

  loads_elsewhere : (r : Root) (element : IntType) → can_load other r element ≡ can_load kernel r element
  loads_elsewhere (root.Param n) element = refl
  loads_elsewhere (root.Constant n) element = refl
  loads_elsewhere (root.Local n) element = refl
  loads_elsewhere (root.Private n) element = refl

  stores_elsewhere : (r : Root) (element : IntType) → can_store other r element ≡ can_store kernel r element
  stores_elsewhere (root.Param n) element = refl
  stores_elsewhere (root.Constant n) element = refl
  stores_elsewhere (root.Local n) element = refl
  stores_elsewhere (root.Private n) element = refl

  pub fits_elsewhere : (ls : Lines) → lines_fit other ls ≡ lines_fit kernel ls
  fits_elsewhere NoLine = refl
  fits_elsewhere (SetThen to work rest) =
      ap₂ (λ x y. x && y) (ap₂ (λ x y. x && y) (work_elsewhere work)
      (takes_elsewhere to (work_type other work) ∙ ap (cell_takes kernel to) (result_elsewhere work)))
      (fits_elsewhere rest)
  fits_elsewhere (LoadThen site to element r index rest) =
      ap₂ (λ x y. x && y) (ap₂ (λ x y. is_site kernel site && x && has_type Long y && cell_takes kernel to (Some
      element))
      (loads_elsewhere r element) (atom_elsewhere index)) (fits_elsewhere rest)
  fits_elsewhere (StoreThen site element r index from rest) =
      ap₂ (λ x y. x && y) (ap₂ (λ x y. x && has_type element y)
      (ap₂ (λ x y. is_site kernel site && x && has_type Long y) (stores_elsewhere r element) (atom_elsewhere index))
      (atom_elsewhere from)) (fits_elsewhere rest)
  fits_elsewhere (ClearThen array rest) =
      ap (λ y. is_private_array (slice_get kernel.arrays array) && y) (fits_elsewhere rest)
  fits_elsewhere (IfThen site test chosen others rest) =
      ap₂ (λ x y. x && y) (ap₂ (λ x y. x && y) (ap₂ (λ x y. is_site kernel site && has_some_type x && y)
      (atom_elsewhere test) (fits_elsewhere chosen)) (fits_elsewhere others)) (fits_elsewhere rest)
  fits_elsewhere (LoopThen site test_first test answer inner rest) =
      ap₂ (λ x y. x && y) (ap₂ (λ x y. x && y) (ap₂ (λ x y. is_site kernel site && x && has_some_type y)
      (fits_elsewhere test) (atom_elsewhere answer)) (fits_elsewhere inner)) (fits_elsewhere rest)
  fits_elsewhere (BarrierThen site rest) = ap (λ y. is_site kernel site && y) (fits_elsewhere rest)

-- ---- lists of tests that hold

both : {x y x' y' : Test} → (x ≡ true → x' ≡ true) → (y ≡ true → y' ≡ true) → (x && y) ≡ true → (x' && y') ≡ true
both {x} {y} {x'} {y'} f g h = let p = and_parts x y h in and_from x' y' (f p.0) (g p.1)

same : {x : Test} → x ≡ true → x ≡ true
same h = h

-- a valid kernel with other lines that fit
pub valid_with : (kernel : Kernel) (body : Lines) → (lines_fit kernel kernel.body ≡ true → lines_fit kernel body ≡
    true) →
    is_kernel kernel ≡ true → is_kernel (with_body kernel body) ≡ true
valid_with kernel body fits =
    both (both (both (both (both (both same (λ h. fits_elsewhere kernel body body ∙ fits h)) same) same) same) same)
    same

-- ---- sweeping and splicing

module _ (kernel : Kernel) where
  either_fits : (b : Test) (x y : Lines) → lines_fit kernel x ≡ true → lines_fit kernel y ≡ true →
      lines_fit kernel (if b then x else y) ≡ true
  either_fits true x y h g = h
  either_fits false x y h g = g

  swept_fits : (u : ℕ → Test) (ls : Lines) → lines_fit kernel ls ≡ true → lines_fit kernel (swept u ls) ≡ true
  swept_fits u NoLine h = h
  swept_fits u (SetThen to work rest) h =
      let p = and_parts _ (lines_fit kernel rest) h in
      either_fits (u to) (swept u rest) (SetThen to work (swept u rest)) (swept_fits u rest p.1)
      (and_from _ (lines_fit kernel (swept u rest)) p.0 (swept_fits u rest p.1))
  swept_fits u (LoadThen site to element r index rest) h = both same (swept_fits u rest) h
  swept_fits u (StoreThen site element r index from rest) h = both same (swept_fits u rest) h
  swept_fits u (ClearThen array rest) h = both same (swept_fits u rest) h
  swept_fits u (IfThen site test chosen others rest) h =
      both (both (both same (swept_fits u chosen)) (swept_fits u others)) (swept_fits u rest) h
  swept_fits u (LoopThen site test_first test answer inner rest) h =
      both (both (both (both same (swept_fits u test)) same) (swept_fits u inner)) (swept_fits u rest) h
  swept_fits u (BarrierThen site rest) h = both same (swept_fits u rest) h

  joined_fits : (ls tail : Lines) → lines_fit kernel ls ≡ true → lines_fit kernel tail ≡ true →
      lines_fit kernel (joined_to ls tail) ≡ true
  joined_fits NoLine tail h t = t
  joined_fits (SetThen to work rest) tail h t = both same (λ r. joined_fits rest tail r t) h
  joined_fits (LoadThen site to element r index rest) tail h t = both same (λ f. joined_fits rest tail f t) h
  joined_fits (StoreThen site element r index from rest) tail h t = both same (λ f. joined_fits rest tail f t) h
  joined_fits (ClearThen array rest) tail h t = both same (λ r. joined_fits rest tail r t) h
  joined_fits (IfThen site test chosen others rest) tail h t = both same (λ r. joined_fits rest tail r t) h
  joined_fits (LoopThen site test_first test answer inner rest) tail h t = both same (λ r. joined_fits rest tail r t) h
  joined_fits (BarrierThen site rest) tail h t = both same (λ r. joined_fits rest tail r t) h

  spliced_fits : (ls : Lines) → lines_fit kernel ls ≡ true → lines_fit kernel (spliced ls) ≡ true
  spliced_fits NoLine h = h
  spliced_fits (SetThen to work rest) h = both same (spliced_fits rest) h
  spliced_fits (LoadThen site to element r index rest) h = both same (spliced_fits rest) h
  spliced_fits (StoreThen site element r index from rest) h = both same (spliced_fits rest) h
  spliced_fits (ClearThen array rest) h = both same (spliced_fits rest) h
  spliced_fits (IfThen site test chosen others rest) h =
      let p = and_parts _ (lines_fit kernel rest) h in
      let q = and_parts _ (lines_fit kernel others) p.0 in
      let r = and_parts _ (lines_fit kernel chosen) q.0 in
      either_fits (is_decided test chosen others) _ _
      (joined_fits (if is_zero (constant_value test) then spliced others else spliced chosen) (spliced rest)
      (either_fits (is_zero (constant_value test)) (spliced others) (spliced chosen) (spliced_fits others q.1)
      (spliced_fits chosen r.1)) (spliced_fits rest p.1))
      (both (both (both same (spliced_fits chosen)) (spliced_fits others)) (spliced_fits rest) h)
  spliced_fits (LoopThen site test_first test answer inner rest) h =
      both (both (both (both same (spliced_fits test)) same) (spliced_fits inner)) (spliced_fits rest) h
  spliced_fits (BarrierThen site rest) h = both same (spliced_fits rest) h

  pub swept_valid : is_kernel kernel ≡ true → is_kernel (swept_of kernel) ≡ true
  swept_valid = valid_with kernel (swept (is_unread kernel) kernel.body) (swept_fits (is_unread kernel) kernel.body)

  pub spliced_valid : is_kernel kernel ≡ true → is_kernel (spliced_of kernel) ≡ true
  spliced_valid = valid_with kernel (spliced kernel.body) (spliced_fits kernel.body)

-- ---- folding

le_holds : (a b : ℤ) → a ≤ℤ b → int_le a b ≡ true
le_holds a b h = by (int_le a b) refl
  where
    by : (x : Test) → int_le a b ≡ x → int_le a b ≡ true
    by true e = e
    by false e = absurd (omega (arith, ints, e, h))

value_fits : (t : IntType) (z : ℤ) → IsValue t z → is_value t z ≡ true
value_fits t z v = and_from (int_le (lowest t) z) (int_le z (highest t)) (le_holds _ _ v.low) (le_holds _ _ v.high)

module _ (kernel : Kernel) where
  -- what is known of a cell is a constant of the cell's type
  abbrev pub AreTyped : Known → Type 0
  AreTyped known = (c : ℕ) (a : Atom) → known c ≡ Some a →
      (is_constant a ≡ true) × (atom_type kernel a ≡ type_of_cell (slice_get kernel.cells c))

  pub none_typed : AreTyped nothing_known
  none_typed c a e = absurd (none-some a e)

  atom_same : (known : Known) → AreTyped known → (a : Atom) → atom_type kernel (known_atom known a) ≡ atom_type kernel a
  atom_same known typed (Const value of) = refl
  atom_same known typed (CellAtom c) = by (known c) (typed c)
    where
      by : (o : Option Atom) → ((a : Atom) → o ≡ Some a →
          (is_constant a ≡ true) × (atom_type kernel a ≡ type_of_cell (slice_get kernel.cells c))) →
          atom_type kernel (Rattle.std.specs.Prelude.unwrap_or o (CellAtom c)) ≡ type_of_cell (slice_get kernel.cells c)
      by None h = refl
      by (Some a) h = (h a refl).1

  types_same : (known : Known) → AreTyped known → (types : List IntType) (atoms : List Atom) →
      have_types kernel types (map (known_atom known) atoms) ≡ have_types kernel types atoms
  types_same known typed [] [] = refl
  types_same known typed [] (a ∷ atoms) = refl
  types_same known typed (t ∷ types) [] = refl
  types_same known typed (t ∷ types) (a ∷ atoms) =
      ap₂ (λ x y. has_type t x && y) (atom_same known typed a) (types_same known typed types atoms)

  work_same : (known : Known) → AreTyped known → (work : Work) →
      work_fits kernel (known_work known work) ≡ work_fits kernel work
  work_same known typed (Unary op of a) = ap (has_type of) (atom_same known typed a)
  work_same known typed (Binary op of a b) =
      ap₂ (λ x y. has_type of x && right_fits op of y) (atom_same known typed a) (atom_same known typed b)
  work_same known typed (Builtin f of args) = types_same known typed (replicate (arity_of f) of) args
  work_same known typed (Convert to a) = ap has_some_type (atom_same known typed a)
  work_same known typed (Ask what dim) = ap (has_type Uint) (atom_same known typed dim)
  work_same known typed (Argument number) = refl
  work_same known typed (Copy a) = ap has_some_type (atom_same known typed a)

  result_same : (known : Known) → AreTyped known → (work : Work) →
      work_type kernel (known_work known work) ≡ work_type kernel work
  result_same known typed (Unary op of a) = refl
  result_same known typed (Binary op of a b) = refl
  result_same known typed (Builtin f of args) = refl
  result_same known typed (Convert to a) = refl
  result_same known typed (Ask what dim) = refl
  result_same known typed (Argument number) = refl
  result_same known typed (Copy a) = atom_same known typed a

  -- what is computed beforehand is a value of the work's type
  settled_value : (work : Work) → is_foregone work ≡ true → IsValue (foregone_type work) (foregone_value work)
  settled_value (Unary op of a) f = unary_value op of (constant_value a)
  settled_value (Binary op of a b) f = binary_value op of (constant_value a) (constant_value b)
  settled_value (Builtin g of args) f = IsValue-builtin g of _ _ _
  settled_value (Convert to a) f = IsValue-wrap to (constant_value a)
  settled_value (Ask what dim) f = absurd (true≢false (sym f))
  settled_value (Argument number) f = absurd (true≢false (sym f))
  settled_value (Copy a) f = absurd (true≢false (sym f))

  settled_type : (work : Work) → is_foregone work ≡ true → Some (foregone_type work) ≡ work_type kernel work
  settled_type (Unary op of a) f = refl
  settled_type (Binary op of a b) f = refl
  settled_type (Builtin g of args) f = refl
  settled_type (Convert to a) f = refl
  settled_type (Ask what dim) f = absurd (true≢false (sym f))
  settled_type (Argument number) f = absurd (true≢false (sym f))
  settled_type (Copy a) f = absurd (true≢false (sym f))

  constant_type : (t : IntType) (z : ℤ) → IsValue t z → atom_type kernel (Const z t) ≡ Some t
  constant_type t z v = ap (λ (b : Test). if b then Some t else None) (value_fits t z v)

  -- a sum that is reduced fits, and has its type
  some_type : (t : IntType) (o : Option IntType) → has_type t o ≡ true → has_some_type o ≡ true
  some_type t None e = e
  some_type t (Some u) e = refl

  right_type : (op : Bin) (t : IntType) (o : Option IntType) → right_fits op t o ≡ true → has_some_type o ≡ true
  right_type op t o = by (is_shift op)
    where
      by : (b : Test) → (if b then has_some_type o else has_type t o) ≡ true → has_some_type o ≡ true
      by true e = e
      by false e = some_type t o e

  sum_type : (op : Bin) (of : IntType) → is_long_sum op of ≡ true → Some of ≡ Some (binary_type op of)
  sum_type op of e =
      ap (λ (o : Bin). Some (binary_type o of)) (sym (add_is op (and_parts (is_add op) (same_type Long of) e).0))

  reduces : (work : Work) → work_fits kernel work ≡ true →
      (work_fits kernel (reduced_work work) ≡ true) × (work_type kernel (reduced_work work) ≡ work_type kernel work)
  reduces (Binary op of a b) h = by_left (is_long_sum op of && is_zero_constant a) refl
    where
      fits : (has_type of (atom_type kernel a) ≡ true) × (right_fits op of (atom_type kernel b) ≡ true)
      fits = and_parts (has_type of (atom_type kernel a)) (right_fits op of (atom_type kernel b)) h

      Fits : Work → Type 0
      Fits w = (work_fits kernel w ≡ true) × (work_type kernel w ≡ Some (binary_type op of))

      by_left : (t : Test) → (is_long_sum op of && is_zero_constant a) ≡ t →
          Fits (if t then Convert of b else Binary op of a b)
      by_left true e = (
        right_type op of (atom_type kernel b) fits.1,
        sum_type op of (and_parts (is_long_sum op of) (is_zero_constant a) e).0,
      )
      by_left false e = (h, refl)
  reduces (Unary op of a) h = (h, refl)
  reduces (Builtin f of args) h = (h, refl)
  reduces (Convert to a) h = (h, refl)
  reduces (Ask what dim) h = (h, refl)
  reduces (Argument number) h = (h, refl)
  reduces (Copy a) h = (h, refl)

  record Settles (work : Work) : Type 0 where
    fits : work_fits kernel (settled_work work) ≡ true
    type : work_type kernel (settled_work work) ≡ work_type kernel work

  settles : (work : Work) → work_fits kernel work ≡ true → Settles work
  settles work h = by (is_foregone work) refl
    where
      by : (b : Test) → is_foregone work ≡ b → Settles work
      by true e =
          let made : settled_work work ≡ Copy (Const (foregone_value work) (foregone_type work)) =
          ap (λ (x : Test).
          if x then Copy (Const (foregone_value work) (foregone_type work)) else reduced_work work) e in
          let t = constant_type (foregone_type work) (foregone_value work) (settled_value work e) in
          record {
            fits = ap (work_fits kernel) made ∙ ap has_some_type t;
            type = ap (work_type kernel) made ∙ (t ∙ settled_type work e);
          }
      by false e =
          let made : settled_work work ≡ reduced_work work =
          ap (λ (x : Test).
          if x then Copy (Const (foregone_value work) (foregone_type work)) else reduced_work work) e in
          let reduced = reduces work h in
          record { fits = ap (work_fits kernel) made ∙ reduced.0; type = ap (work_type kernel) made ∙ reduced.1 }

  takes_is : (to : ℕ) (o : Option IntType) → cell_takes kernel to o ≡ true →
      type_of_cell (slice_get kernel.cells to) ≡ o
  takes_is to None h = absurd (true≢false (sym h))
  takes_is to (Some t) h = has_type_is t _ h

  -- what is learned of a cell is of its type
  copied_typed : (work : Work) → is_plain work ≡ true →
      (is_constant (copied work) ≡ true) × (atom_type kernel (copied work) ≡ work_type kernel work)
  copied_typed (Unary op of a) p = absurd (true≢false (sym p))
  copied_typed (Binary op of a b) p = absurd (true≢false (sym p))
  copied_typed (Builtin f of args) p = absurd (true≢false (sym p))
  copied_typed (Convert to a) p = absurd (true≢false (sym p))
  copied_typed (Ask what dim) p = absurd (true≢false (sym p))
  copied_typed (Argument number) p = absurd (true≢false (sym p))
  copied_typed (Copy a) p = (p, refl)

  learned_typed : (known : Known) → AreTyped known → (to : ℕ) (work : Work) → is_plain work ≡ true →
      cell_takes kernel to (work_type kernel work) ≡ true → AreTyped (learned known to (copied work))
  learned_typed known typed to work p takes c a = by (nat_eq c to) refl
    where
      by : (b : Test) → nat_eq c to ≡ b → (if b then Some (copied work) else known c) ≡ Some a →
          (is_constant a ≡ true) × (atom_type kernel a ≡ type_of_cell (slice_get kernel.cells c))
      by true e s =
          let k = copied_typed work p in
          let here = same_Some (copied work) a s in (
            subst (λ x. is_constant x ≡ true) here k.0,
            subst (λ x. atom_type kernel x ≡ type_of_cell (slice_get kernel.cells c)) here
                (k.1 ∙ (sym (takes_is to (work_type kernel work) takes) ∙
                ap (λ n. type_of_cell (slice_get kernel.cells n)) (sym (eqb-true c to e)))),
          )
      by false e s = typed c a s

  pub learnt_typed : (once : ℕ → Test) (known : Known) → AreTyped known → (to : ℕ) (work : Work) →
      cell_takes kernel to (work_type kernel work) ≡ true → AreTyped (learnt once known to work)
  learnt_typed once known typed to work takes = by (once to && is_plain work) refl
    where
      by : (b : Test) → (once to && is_plain work) ≡ b →
          AreTyped (if b then learned known to (copied work) else known)
      by true e = learned_typed known typed to work (and_parts (once to) (is_plain work) e).1 takes
      by false e = typed

  -- a line that sets a cell, folded
  set_work : (known : Known) → AreTyped known → (to : ℕ) (work : Work) →
      (work_fits kernel work && cell_takes kernel to (work_type kernel work)) ≡ true →
      (work_fits kernel (settled_work (known_work known work)) &&
      cell_takes kernel to (work_type kernel (settled_work (known_work known work)))) ≡ true
  set_work known typed to work h =
      let p = and_parts (work_fits kernel work) _ h in
      let s = settles (known_work known work) (work_same known typed work ∙ p.0) in
      and_from _ _ s.fits (ap (cell_takes kernel to) (s.type ∙ result_same known typed work) ∙ p.1)

  -- cells that hold offsets are of type long
  abbrev pub AreLong : (ℕ → Test) → Type 0
  AreLong os = (c : ℕ) → os c ≡ true → type_of_cell (slice_get kernel.cells c) ≡ Some Long

  offset_type : (work : Work) → is_offset kernel.params work ≡ true → work_type kernel work ≡ Some Long
  offset_type (Argument number) e = by_kind (slice_get kernel.params number) e
    where
      by_kind : (o : Option VarKind) → is_pointer o ≡ true → type_of_parameter o ≡ Some Long
      by_kind None e = absurd (true≢false (sym e))
      by_kind (Some (Scalar t)) e = absurd (true≢false (sym e))
      by_kind (Some (Pointer at element root)) e = refl
  offset_type (Unary op of a) e = absurd (true≢false (sym e))
  offset_type (Binary op of a b) e = absurd (true≢false (sym e))
  offset_type (Builtin f of args) e = absurd (true≢false (sym e))
  offset_type (Convert to a) e = absurd (true≢false (sym e))
  offset_type (Ask what dim) e = absurd (true≢false (sym e))
  offset_type (Copy a) e = absurd (true≢false (sym e))

  holds_long : (once : ℕ → Test) (ls : Lines) → lines_fit kernel ls ≡ true →
      AreLong (λ c. holds_offset once kernel.params c ls)
  holds_long once NoLine h c e = absurd (true≢false (sym e))
  holds_long once (SetThen to work rest) h c e =
      by_cell (λ f d i. holds_long once rest f d i) (nat_eq c to) (once to && is_offset kernel.params work) refl refl e
    where
      fits : ((work_fits kernel work && cell_takes kernel to (work_type kernel work)) ≡ true) ×
          (lines_fit kernel rest ≡ true)
      fits = and_parts (work_fits kernel work && cell_takes kernel to (work_type kernel work)) (lines_fit kernel rest) h

      by_cell : (lines_fit kernel rest ≡ true → AreLong (λ c. holds_offset once kernel.params c rest)) → (t p : Test) →
          nat_eq c to ≡ t → (once to && is_offset kernel.params work) ≡ p →
          ((t && p) || holds_offset once kernel.params c rest) ≡ true →
          type_of_cell (slice_get kernel.cells c) ≡ Some Long
      by_cell behind true true is offset e =
          ap (λ n. type_of_cell (slice_get kernel.cells n)) (eqb-true c to is) ∙
          (takes_is to (work_type kernel work) (and_parts (work_fits kernel work) _ fits.0).1 ∙
          offset_type work (and_parts (once to) (is_offset kernel.params work) offset).1)
      by_cell behind true false is offset e = behind fits.1 c e
      by_cell behind false p is offset e = behind fits.1 c e
  holds_long once (LoadThen site to element r index rest) h c e =
      holds_long once rest (and_parts _ (lines_fit kernel rest) h).1 c e
  holds_long once (StoreThen site element r index from rest) h c e =
      holds_long once rest (and_parts _ (lines_fit kernel rest) h).1 c e
  holds_long once (ClearThen array rest) h c e = holds_long once rest (and_parts _ (lines_fit kernel rest) h).1 c e
  holds_long once (IfThen site test chosen others rest) h c e =
      holds_long once rest (and_parts _ (lines_fit kernel rest) h).1 c e
  holds_long once (LoopThen site test_first test answer inner rest) h c e =
      holds_long once rest (and_parts _ (lines_fit kernel rest) h).1 c e
  holds_long once (BarrierThen site rest) h c e = holds_long once rest (and_parts _ (lines_fit kernel rest) h).1 c e

  typed_inside : (os : ℕ → Test) → AreLong os → (known : Known) → AreTyped known → AreTyped (with_offsets os known)
  typed_inside os long known typed c a is = by_case (offsets_cases os known c a is)
    where
      by_case : (known c ≡ Some a) ⊎ ((os c ≡ true) × (a ≡ Const (pos 0) Long)) →
          (is_constant a ≡ true) × (atom_type kernel a ≡ type_of_cell (slice_get kernel.cells c))
      by_case (inl before) = typed c a before
      by_case (inr (among, same)) = (
        ap is_constant same,
        ap (atom_type kernel) same ∙ (constant_type Long (pos 0) (zero_value Long) ∙ sym (long c among)),
      )

  folded_fits : (once : ℕ → Test) (os : ℕ → Test) → AreLong os → (known : Known) → AreTyped known → (ls : Lines) →
      lines_fit kernel ls ≡ true →
      lines_fit kernel (folded once os known ls) ≡ true
  folded_fits once os long known typed NoLine h = h
  folded_fits once os long known typed (SetThen to work rest) h =
      let p = and_parts _ (lines_fit kernel rest) h in
      let s = set_work known typed to work p.0 in
      let takes = (and_parts (work_fits kernel (settled_work (known_work known work))) _ s).1 in
      and_from _ _ s (folded_fits once os long (learnt once known to (settled_work (known_work known work)))
      (learnt_typed once known typed to (settled_work (known_work known work)) takes) rest p.1)
  folded_fits once os long known typed (LoadThen site to element r index rest) h =
      both (both (both same (λ x. ap (has_type Long) (atom_same known typed index) ∙ x)) same)
      (folded_fits once os long known typed rest) h
  folded_fits once os long known typed (StoreThen site element r index from rest) h =
      both (both (both same (λ x. ap (has_type Long) (atom_same known typed index) ∙ x))
      (λ x. ap (has_type element) (atom_same known typed from) ∙ x)) (folded_fits once os long known typed rest) h
  folded_fits once os long known typed (ClearThen array rest) h =
      both same (folded_fits once os long known typed rest) h
  folded_fits once os long known typed (IfThen site test chosen others rest) h =
      both (both (both (both same (λ x. ap has_some_type (atom_same known typed test) ∙ x))
      (folded_fits once os long known typed chosen)) (folded_fits once os long known typed others))
      (folded_fits once os long known typed rest)
      h
  folded_fits once os long known typed (LoopThen site test_first test answer inner rest) h =
      both (both (both (both same (folded_fits once os long (with_offsets os known)
      (typed_inside os long known typed) test))
      (λ x. ap has_some_type (atom_same (with_offsets os known) (typed_inside os long known typed) answer) ∙ x))
      (folded_fits once os long (with_offsets os known) (typed_inside os long known typed) inner))
      (folded_fits once os long known typed rest) h
  folded_fits once os long known typed (BarrierThen site rest) h =
      both same (folded_fits once os long known typed rest) h

  pub folded_valid : is_kernel kernel ≡ true → is_kernel (folded_of kernel) ≡ true
  folded_valid =
      valid_with kernel (folded (is_set_once kernel) (offsets_of kernel) nothing_known kernel.body)
      (λ fits. folded_fits (is_set_once kernel) (offsets_of kernel) (holds_long (is_set_once kernel) kernel.body fits)
      nothing_known none_typed kernel.body fits)

  -- the constants of a work that fits are values of the types in which it computes
  is_of : (t : IntType) (a : Atom) → has_type t (atom_type kernel a) ≡ true → IsValueOf t a
  is_of t (CellAtom c) h = tt
  is_of t (Const value of) h = by (is_value of value) refl (has_type_is t _ h)
    where
      by : (b : Test) → is_value of value ≡ b → (if b then Some of else None) ≡ Some t → IsValue t value
      by true e s = subst (λ u. IsValue u value) (same_Some of t s) (is_value_is of value e)
      by false e s = absurd (none-some t s)

  are_of : (t : IntType) (n : ℕ) (atoms : List Atom) → have_types kernel (replicate n t) atoms ≡ true →
      AreValuesOf t atoms
  are_of t n [] h = tt
  are_of t zero (a ∷ atoms) h = absurd (true≢false (sym h))
  are_of t (suc n) (a ∷ atoms) h =
      let p = and_parts (has_type t (atom_type kernel a)) (have_types kernel (replicate n t) atoms) h in
      (is_of t a p.0, are_of t n atoms p.1)

  is_right : (op : Bin) (t : IntType) (a : Atom) → right_fits op t (atom_type kernel a) ≡ true → IsRightOf op t a
  is_right op t (CellAtom c) h = tt
  is_right op t (Const value of) h = by (is_shift op) refl h
    where
      some_value : (b : Test) → is_value of value ≡ b → has_some_type (if b then Some of else None) ≡ true →
          IsValue of value
      some_value true e s = is_value_is of value e
      some_value false e s = absurd (true≢false (sym s))

      by : (b : Test) → is_shift op ≡ b →
          (if b then has_some_type (atom_type kernel (Const value of)) else has_type t (atom_type kernel (Const value
          of)))
          ≡ true → IsOperand op t value
      by true e s = record {
        wide = value_wide of value (some_value (is_value of value) refl s);
        value = λ n. absurd (true≢false (sym e ∙ n));
      }
      by false e s = let v = is_of t (Const value of) s in record { wide = value_wide t value v; value = λ n. v }

  computable : (work : Work) → work_fits kernel work ≡ true → IsComputable work
  computable (Unary op of a) h = is_of of a h
  computable (Binary op of a b) h =
      let p = and_parts (has_type of (atom_type kernel a)) (right_fits op of (atom_type kernel b)) h in
      (is_of of a p.0, is_right op of b p.1)
  computable (Builtin f of args) h = are_of of (arity_of f) args h
  computable (Convert to a) h = tt
  computable (Ask what dim) h = tt
  computable (Argument number) h = tt
  computable (Copy a) h = tt

  all_computable : (once : ℕ → Test) (os : ℕ → Test) → AreLong os → (known : Known) → AreTyped known → (ls : Lines) →
      lines_fit kernel ls ≡ true →
      AreComputable once os known ls
  all_computable once os long known typed NoLine h = tt
  all_computable once os long known typed (SetThen to work rest) h =
      let p = and_parts _ (lines_fit kernel rest) h in
      let q = and_parts (work_fits kernel work) _ p.0 in
      let s = set_work known typed to work p.0 in
      let takes = (and_parts (work_fits kernel (settled_work (known_work known work))) _ s).1 in (
        computable (known_work known work) (work_same known typed work ∙ q.0),
        all_computable once os long (learnt once known to (settled_work (known_work known work)))
            (learnt_typed once known typed to (settled_work (known_work known work)) takes) rest p.1,
      )
  all_computable once os long known typed (LoadThen site to element r index rest) h =
      all_computable once os long known typed rest (and_parts _ (lines_fit kernel rest) h).1
  all_computable once os long known typed (StoreThen site element r index from rest) h =
      all_computable once os long known typed rest (and_parts _ (lines_fit kernel rest) h).1
  all_computable once os long known typed (ClearThen array rest) h =
      all_computable once os long known typed rest (and_parts _ (lines_fit kernel rest) h).1
  all_computable once os long known typed (IfThen site test chosen others rest) h =
      let p = and_parts _ (lines_fit kernel rest) h in
      let q = and_parts _ (lines_fit kernel others) p.0 in
      let r = and_parts _ (lines_fit kernel chosen) q.0 in (
        all_computable once os long known typed chosen r.1,
        all_computable once os long known typed others q.1,
        all_computable once os long known typed rest p.1,
      )
  all_computable once os long known typed (LoopThen site test_first test answer inner rest) h =
      let p = and_parts _ (lines_fit kernel rest) h in
      let q = and_parts _ (lines_fit kernel inner) p.0 in
      let r = and_parts _ (lines_fit kernel test) (and_parts _ _ q.0).0 in (
        all_computable once os long (with_offsets os known) (typed_inside os long known typed) test r.1,
        all_computable once os long (with_offsets os known) (typed_inside os long known typed) inner q.1,
        all_computable once os long known typed rest p.1,
      )
  all_computable once os long known typed (BarrierThen site rest) h =
      all_computable once os long known typed rest (and_parts _ (lines_fit kernel rest) h).1

  pub body_computable : is_kernel kernel ≡ true →
      AreComputable (is_set_once kernel) (offsets_of kernel) nothing_known kernel.body
  body_computable valid =
      let fits = (and_parts (roots_are_own 0 kernel.params) _
      (and_parts _ _ (and_parts _ _ (and_parts _ _ (and_parts _ _ (and_parts _ _ valid).0).0).0).0).0).1 in
      all_computable (is_set_once kernel) (offsets_of kernel) (holds_long (is_set_once kernel) kernel.body fits)
      nothing_known none_typed kernel.body fits
