-- What the commands that run nothing show of a launch file's launches.
use Rattle.std.specs.Prelude.{◌≡◌, ℕ, suc, Bool, List, [], ◌∷◌, ◌++◌, codes, decimal, if◌then◌else◌}
use Rattle.launch_file.specs.Texts.{Text, Part}
use Rattle.cl_meaning.specs.Typed.{Unit'}

-- a text of a launch, by the lane width, the name of its kernel and its unit
abbrev pub Showing : Type 1
Showing = (width : ℕ) → (name : List ℕ) → Unit' → (text : List ℕ) → Type 0

-- the line of the launch with that number, where the file lists its launches
abbrev pub head_of : Bool → ℕ → List ℕ
head_of several number = if several then codes "launch " ++ (decimal number ++ codes "\n") else []

-- the texts of launches, the first of which has that number
abbrev pub AreTexts : Showing → (width : ℕ) (several : Bool) (number : ℕ) → List Part → List Unit' → (text : List ℕ) →
    Type 0
AreTexts show width several number [] [] text = text ≡ []
AreTexts show width several number (part ∷ parts) (u ∷ us) text =
    (own : List ℕ) × (rest : List ℕ) × show width part.kernel u own ×
    AreTexts show width several (suc number) parts us rest × (text ≡ head_of several number ++ (own ++ rest))
AreTexts show width several number _ _ text = ⊥

-- the texts of a launch file's launches, in order
abbrev pub Shows : Showing → Text → List Unit' → (text : List ℕ) → Type 0
Shows show text units shown = AreTexts show text.lanes text.several 1 text.list units shown
