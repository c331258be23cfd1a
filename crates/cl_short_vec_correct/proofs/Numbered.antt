-- The function in which a statement stands has the variables that are declared there: functions of a program have the
-- numbers of their definitions.
use Rattle.std.proofs.Common.{◌≡◌, ℕ, suc, ◌+◌, List, ◌∷◌, map, Some, true, refl, ap, sym, ◌∙◌, subst, arith}
use Rattle.std.proofs.Common.{slice_get, Bool, false}
use Rattle.wg_num.specs.declared.types.Place.{Place}
use Rattle.cl_model.specs.Tree.{Function, Program}
use Rattle.std.specs.Prelude.{unwrap_or}
use Rattle.cl_model.specs.Calls.{function_at, no_function}
use Rattle.cl_tree.specs.declared.tree.Form.TheVariants as forms
use Rattle.cl_tree.specs.Syntax.{node, Forest, more}
use Rattle.cl_meaning.specs.OwnWords.{name_in}
use Rattle.cl_meaning.specs.Environment.{Env, Variable, Array}
use Rattle.cl_meaning.specs.Visible.{behind, behind_parts, in_definition}
use Rattle.cl_meaning.specs.Faults.{Asked}
use Rattle.cl_meaning.specs.Typed as typed_specs
use Rattle.cl_meaning.specs.Typed.{Built}
use Rattle.cl_meaning.specs.Statements.{functions_in, function_before}
use Rattle.cl_meaning.specs.Meant.{meant, parts_meant}
use Rattle.cl_check_sound.specs.Erased.{function_of}
use Rattle.cl_check_sound.proofs.Grown.{Extends}
use Rattle.cl_check_sound.proofs.Facing.{Finals}
use Rattle.cl_check_sound.proofs.Fronts.{Front}
use Rattle.cl_check_sound.proofs.Functions as functions
use Rattle.cl_check_sound.proofs.Functions.{bare, block_ends, slice_map, slice_front, map_slice}
use Rattle.cl_check_sound.proofs.Units.{unit_meant_next}
use Rattle.cl_short_vec_correct.specs.Doing.{HasDeclared}

-- what is declared up to there is declared in the function
pub has_declared : (P : Program) (g : Function) (vars : List Variable) (arrs : List Array) → Finals g vars arrs →
    (env later : Env) → later.owner ≡ env.owner → (function_at P env.owner.number).variables ≡ g.variables →
    Extends later.variables vars → HasDeclared P later
has_declared P g vars arrs fin env later o same ext x of (kind, e, t) =
    let q = slice_map (λ (v : Variable). v.kind) later.variables x kind e in
    let there = subst (λ z. slice_get z x ≡ Some q.0) (sym ext.1) (slice_front later.variables ext.0 x q.0 q.1) in
    let k = map_slice (λ (v : Variable). v.kind) vars x q.0 there in
    let number = ap (λ z. (function_at P z.number).variables) o ∙ same ∙ fin.variables in
    (kind, ap (λ z. slice_get z x) number ∙ k ∙ ap Some q.2, t)

-- the functions of a program from that number on are these
abbrev pub Numbered : Program → ℕ → List typed_specs.Function → Type 0
Numbered P n Fs = (i : ℕ) (F : typed_specs.Function) → slice_get Fs i ≡ Some F → function_at P (n + i) ≡ function_of F

-- all functions of a program
pub all_numbered : (P : Program) (Fs : List typed_specs.Function) → P.functions ≡ map function_of Fs → Numbered P 0 Fs
all_numbered P Fs e i F h = ap (λ z. unwrap_or (slice_get P.functions z) no_function)
    (let q : 0 + i ≡ i = omega arith in q) ∙ (ap (λ z. unwrap_or (slice_get z i) no_function) e ∙
    ap (λ z. unwrap_or z no_function) (map_slice function_of Fs i F h))

first_numbered : (P : Program) (n : ℕ) (F : typed_specs.Function) (Fs : List typed_specs.Function) →
    Numbered P n (F ∷ Fs) → function_at P n ≡ function_of F
first_numbered P n F Fs h =
    subst (λ z. function_at P z ≡ function_of F) (let q : n + 0 ≡ n = omega arith in q) (h 0 F refl)

next_numbered : (P : Program) (n : ℕ) (F : typed_specs.Function) (Fs : List typed_specs.Function) →
    Numbered P n (F ∷ Fs) → Numbered P (suc n) Fs
next_numbered P n F Fs h i G e = subst (λ z. function_at P z ≡ function_of G)
    (let q : n + suc i ≡ suc n + i = omega arith in q) (h (suc i) G e)

-- the variables of a function with that number are those at the end of the definition
abbrev pub IsStored : Program → (number : ℕ) → Env → List ℕ → Forest → Type 0
IsStored P number u w parts = (function_at P number).variables ≡
    map (λ (v : Variable). v.kind) (behind_parts (in_definition u (name_in w)) forms.FunctionNode true parts).variables

module _ (asked : Asked) (u : Env) (sites : List Place) (w : List ℕ) (f l : ℕ) (parts : Forest)
    (fr : Front asked (in_definition u (name_in w)) sites true (bare w) parts) where
  -- the variables of a typed function are those
  pub typed_variables : (functions.typed asked u sites w f l parts fr).variables ≡
      (behind_parts (in_definition u (name_in w)) forms.FunctionNode true parts).variables
  typed_variables = sym (ap (λ (z : Env). z.variables)
      (fr.inner ∙ block_ends fr.eb fr.block fr.shape (functions.marked asked u sites w f l parts fr)))

  -- a definition in front of other items
  numbered_are : (front : Bool) (ps : Forest) →
      functions_in (parts_meant u forms.UnitNode front sites (more (node forms.FunctionNode w f l parts) ps)).pieces ≡
      functions.typed asked u sites w f l parts fr ∷
      functions_in (parts_meant (behind u (node forms.FunctionNode w f l parts)) forms.UnitNode false
      (meant u sites (node forms.FunctionNode w f l parts)).sites ps).pieces
  numbered_are front ps =
      let p = node forms.FunctionNode w f l parts in
      let rest = parts_meant (behind u p) forms.UnitNode false (meant u sites p).sites ps in
      ap (λ z. functions_in z.pieces) (unit_meant_next u front sites p ps) ∙
      ap (λ (z : Built). function_before z.what (functions_in rest.pieces))
      (functions.function_is asked u sites w f l parts fr)

  pub numbered_behind : (P : Program) (n : ℕ) (front : Bool) (ps : Forest) →
      Numbered P n (functions_in
      (parts_meant u forms.UnitNode front sites (more (node forms.FunctionNode w f l parts) ps)).pieces) →
      IsStored P n u w parts × Numbered P (suc n)
      (functions_in (parts_meant (behind u (node forms.FunctionNode w f l parts)) forms.UnitNode false
      (meant u sites (node forms.FunctionNode w f l parts)).sites ps).pieces)
  numbered_behind P n front ps h =
      let p = node forms.FunctionNode w f l parts in
      let F = functions.typed asked u sites w f l parts fr in
      let Fs = functions_in (parts_meant (behind u p) forms.UnitNode false (meant u sites p).sites ps).pieces in
      let k = subst (Numbered P n) (numbered_are front ps) h in (
        ap (λ (z : Function). z.variables) (first_numbered P n F Fs k) ∙
            ap (λ z. map (λ (v : Variable). v.kind) z) typed_variables,
        next_numbered P n F Fs k,
      )
