-- What the lines of a plan say: which variables are kept between regions.
use Rattle.std.specs.Prelude.{◌≡◌, ℕ, List, [], ◌∷◌, ◌++◌, Some, codes}
use Rattle.wg_num.specs.declared.types.Place.{Place}
use Rattle.cl_model.specs.Tree.{Program}
use Rattle.kir.specs.Tree.{Variable}
use Rattle.kir.specs.Homes.{VariableVaries}
use Rattle.kir.specs.Lowering.{Named, named, ArePlaces}
use Rattle.ctx_plan_text.specs.Lines.{line_text}

-- `once` for a variable that does not vary, `item` for one that does
pub data IsWordOf (program : Program) (v : Variable) : List ℕ → Type 0 where
  once : (VariableVaries program v → ⊥) → IsWordOf program v (codes "once")
  item : VariableVaries program v → IsWordOf program v (codes "item")

-- the line of a variable: its word, the places of the calls that lead to it and that of its declaration, and its name
pub record IsLineOf (program : Program) (names : List (List Named)) (v : Variable) (text : List ℕ) : Type 0 where
  pub word : List ℕ
  pub is_word : IsWordOf program v word
  pub entry : Named
  pub named_so : named names v ≡ Some entry
  pub calls : List Place
  pub places : ArePlaces program.sites v.calls calls
  pub line : text ≡ line_text word (calls ++ entry.place ∷ []) entry.name

-- the lines of these variables, one each and in their order
abbrev pub AreLinesOf : Program → (names : List (List Named)) → List Variable → (text : List ℕ) → Type 0
AreLinesOf program names [] text = text ≡ []
AreLinesOf program names (v ∷ vs) text = (own : List ℕ) × (rest : List ℕ) × IsLineOf program names v own ×
    AreLinesOf program names vs rest × (text ≡ own ++ rest)
