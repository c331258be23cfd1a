-- A function as it stands in a lowered kernel: which of its cells are those of variables that do not vary, and what
-- the calls in it give.
use Rattle.std.proofs.Common.{◌≡◌, ◌≢◌, ℕ, ◌+◌, ◌<◌, ◌≤◌, List, [], ◌∷◌, length, Option, Some, slice_get, refl, sym}
use Rattle.std.proofs.Common.{◌∙◌, subst, arith, ◌⊎◌, inl, inr}
use Rattle.std.proofs.Common.{Bool as Test, true, false}
use Rattle.std.specs.Prelude.{nat_eq}
use Rattle.wg_num.specs.declared.types.IntType.{IntType}
use Rattle.cl_model.specs.declared.program.Root.{Root}
use Rattle.cl_model.specs.Tree.{Call, Expressions, Program}
use Rattle.cl_model.specs.Lists.{IsOneOf}
use Rattle.cl_model.specs.Calls.{function_at}
use Rattle.cl_model.specs.Valid.{Scope, Has, CanLoad, ArgumentsFit, parameter_kinds}
use Rattle.cl_model.specs.Varying.{expressions_of_list, AVariable, AResult, Varies}
use Rattle.cl_model.specs.Varying as varying
use Rattle.kir.specs.Tree.{Lines, Kernel}
use Rattle.kir.specs.Live.{live_in}
use Rattle.kir.specs.Steps.{atom_value}
use Rattle.kir_lower.specs.declared.places.Value.{Value}
use Rattle.kir_lower.specs.Made.{Made, Instance, next_cell, root_in, argument_roots}
use Rattle.kir_lower.specs.Code.{Calls}
use Rattle.kir_uniform.specs.Uniform.{is_constant_root}
use Rattle.kir_uniform.specs.Does.{Cells, Who}
use Rattle.kir_uniform.proofs.Living.{true_or_false, live_behind_or}
use Rattle.kir_uniform.proofs.Alike.{same_number, AreFellows}
use Rattle.kir_lower_shape.proofs.Quiet.{Quiet}
use Rattle.kir_lower_shape.proofs.Steps.{IsApart}
use Rattle.kir_lower_shape.proofs.Anew.{CallsQuiet}
use Rattle.kir_lower_shape.proofs.AbsentCode.{CallsUp}
use Rattle.kir_lower_uniform.specs.Together.{Equal, Together}
use Rattle.kir_lower_uniform.proofs.Ground.{Even, Grown, CallsBack}
use Rattle.kir_lower_uniform.proofs.UnsetCode.{CallsUnset}
use Rattle.kir_lower_uniform.proofs.Fresh.{AllIn, CallsFresh}

module _ (program : Program) (kernel : Kernel) (one other : Who) where
  -- an argument is equal for both where its parameter does not vary
  abbrev pub ArgumentsEqual : ℕ → List Value → Cells → Cells → Type 0
  ArgumentsEqual g values p q = (n : ℕ) (v : Value) → slice_get values n ≡ Some v →
      (Varies program (AVariable g n) → ⊥) → atom_value p v.atom ≡ atom_value q v.atom

  -- both go together through a call, and what it gives is equal where the function's result does not vary
  abbrev pub CallsTogether : ℕ → Calls → Instance → Type 0
  CallsTogether fn calls here =
      (site g : ℕ) (roots : List (Option Root)) (arguments : Expressions) (ts : List IntType) (values : List Value)
      (a : ℕ) (m : Made) (out : ℕ → Test) (p q : Cells)
      → IsOneOf (expressions_of_list (function_at program fn).body) (Call site g roots arguments) →
      g < length program.functions →
      ArgumentsFit program (function_at program fn) (parameter_kinds (function_at program g)) roots ts
      → length values ≡ length (parameter_kinds (function_at program g)) →
      AllIn program kernel a (next_cell m) values →
      Grown program kernel (calls here site g (argument_roots here roots) values m).made
      → ((c : ℕ) → Even program kernel c → out c ≡ true → c < next_cell m) →
      Equal (Even program kernel) (λ c. live_in c (calls here site g (argument_roots here roots) values m).lines
      (out c)) p q → ArgumentsEqual g values p q
      → Together (Even program kernel) one other out (calls here site g (argument_roots here roots) values m).lines
      (λ a b. (Varies program (AResult g) → ⊥) →
      atom_value a (calls here site g (argument_roots here roots) values m).value.atom ≡
      atom_value b (calls here site g (argument_roots here roots) values m).value.atom) p q

  -- the function with this number as it stands there
  pub record Setting (fn : ℕ) (calls : Calls) (here : Instance) : Type 0 where
    pub fellows : AreFellows kernel one other
    pub up : CallsUp calls
    pub unset : (c : ℕ) → CallsUnset program c calls
    pub back : CallsBack program kernel calls
    pub quiet : (c : ℕ) → CallsQuiet program c calls
    pub fresh : CallsFresh program kernel calls here
    pub marked : (x : ℕ) → x < length (function_at program fn).variables → Even program kernel (here.base + x) →
        Varies program (AVariable fn x) → ⊥
    pub even : (x : ℕ) → x < length (function_at program fn).variables → (Varies program (AVariable fn x) → ⊥) →
        Even program kernel (here.base + x)
    pub constants : (element : IntType) (root : Root) → CanLoad program (function_at program fn) root element →
        varying.is_constant_root (function_at program fn) root ≡ true →
        is_constant_root kernel (root_in here root) ≡ true
    pub answer_is : here.answer ≡ here.base + length (function_at program fn).variables
    pub not_kernel : (site g : ℕ) (roots : List (Option Root)) (arguments : Expressions) →
        IsOneOf (expressions_of_list (function_at program fn).body) (Call site g roots arguments) → g ≢ program.kernel
    pub call : CallsTogether fn calls here

module _ (program : Program) (kernel : Kernel) (here : Instance) where
  -- the cell is that of a variable in scope, or one that was made before the function's
  abbrev pub Known : Scope → ℕ → Type 0
  Known scope c = ((x : ℕ) × Has scope x × (c ≡ here.base + x)) ⊎ (c < here.base)

  abbrev pub Bound : Scope → (ℕ → Test) → Type 0
  Bound scope out = (c : ℕ) → Even program kernel c → out c ≡ true → Known scope c

  pub in_scope_or_apart : (c : ℕ) (scope : Scope) → ((x : ℕ) × Has scope x × (c ≡ here.base + x)) ⊎ IsApart c here scope
  in_scope_or_apart c [] = inr (λ x h. absurd h)
  in_scope_or_apart c (y ∷ scope) =
      elim (true_or_false (nat_eq c (here.base + y))) [
        | inl e ↦ inl (y, inl refl, same_number c (here.base + y) e)
        | inr e ↦ elim (in_scope_or_apart c scope) [
          | inl k ↦ inl (k.0, inr k.1, k.2)
          | inr k ↦ inr (λ x h. elim h [ inl s ↦ subst (λ z. nat_eq c (here.base + z) ≡ false) s e | inr i ↦ k x i ])
        ]
      ]

  -- what is live before lines, where no other cell is live before them
  pub bound_before : (lines : Lines) (scope : Scope) (out : ℕ → Test) →
      ((c : ℕ) → Even program kernel c → IsApart c here scope → Quiet c lines false) → Bound scope out →
      Bound scope (λ c. live_in c lines (out c))
  bound_before lines scope out quiet bound c e l =
      elim (in_scope_or_apart c scope) [
        | inl k ↦ inl k
        | inr k ↦ elim (live_behind_or c lines (out c) l) [
          | inl t ↦ absurd (let f = (quiet c e k).is in let z : true ≡ false = sym t ∙ f in cc)
          | inr t ↦ bound c e t
        ]
      ]

  -- all variables in scope are the function's, which has so many
  abbrev pub ScopeWithin : ℕ → Scope → Type 0
  ScopeWithin size scope = (x : ℕ) → Has scope x → x < size

  pub known_below : (size : ℕ) (scope : Scope) (n c : ℕ) → ScopeWithin size scope → here.base + size ≤ n →
      Known scope c → c < n
  known_below size scope n c within le (inl k) = let w = within k.0 k.1 in let e = k.2 in omega (arith, w, e, le)
  known_below size scope n c within le (inr k) = omega (arith, k, le)
