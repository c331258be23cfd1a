-- What lines do as a whole to the cells of an item, whatever their loads give that may be given.
use Rattle.std.specs.Prelude.{◌≡◌, ◌⊎◌, ℕ, zero, suc, ℤ, map, nat_eq, if◌then◌else◌}
use Rattle.std.specs.Prelude.{Bool as Test, true, false}
use Rattle.wg_num.specs.declared.types.IntType.{IntType}
use Rattle.wg_num.specs.Wrap.{wrap_of}
use Rattle.wg_num.specs.Operators.{unary_of, binary_of}
use Rattle.wg_num.specs.Builtins.{builtin_of}
use Rattle.cl_model.specs.declared.program.Query.{Query}
use Rattle.cl_model.specs.declared.program.Root.{Root}
use Rattle.cl_model.specs.Values.{is_zero}
use Rattle.cl_model.specs.Steps.{nth}
use Rattle.kir.specs.declared.line.Atom.{Atom}
use Rattle.kir.specs.Tree.{Work, Unary, Binary, Builtin, Convert, Ask, Argument, Copy, Lines, NoLine, SetThen}
use Rattle.kir.specs.Tree.{LoadThen, StoreThen, ClearThen, IfThen, LoopThen, BarrierThen}
use Rattle.kir.specs.Steps.{atom_value}

abbrev pub Cells : Type 0
Cells = ℕ → ℤ

-- an item as far as its cells can see it: what work-item functions answer, the launch's arguments, and the values
-- that a load of an element of a root may give
pub record Who : Type 1 where
  pub asks : Query → ℤ → ℤ
  pub arguments : ℕ → ℤ
  pub gives : IntType → Root → (index value : ℤ) → Type 0

-- with a cell set
abbrev pub put : Cells → ℕ → ℤ → Cells
put cells to v = λ c. if nat_eq to c then v else cells c

-- what a line computes
abbrev pub computed : Who → Cells → Work → ℤ
computed who cells (Unary op of a) = unary_of op of (atom_value cells a)
computed who cells (Binary op of a b) = binary_of op of (atom_value cells a) (atom_value cells b)
computed who cells (Builtin f of args) =
    builtin_of f of (nth (map (atom_value cells) args) 0) (nth (map (atom_value cells) args) 1)
    (nth (map (atom_value cells) args) 2)
computed who cells (Convert to a) = wrap_of to (atom_value cells a)
computed who cells (Ask what dim) = who.asks what (atom_value cells dim)
computed who cells (Argument number) = who.arguments number
computed who cells (Copy a) = atom_value cells a

-- a test has this answer
abbrev pub Answers : Cells → Atom → Test → Type 0
Answers cells a zero_or_not = is_zero (atom_value cells a) ≡ zero_or_not

-- one more iteration begins, behind so many, with these cells: behind an answer that is not 0, or at once in a `do`.
-- `At` is what is so at the answer before
abbrev pub Enters : (test_first : Test) → (begun : ℕ) → (At : Cells → Cells → Type 0) → Atom → Cells → Cells → Type 0
Enters true begun At answer f g = At f g × Answers g answer false
Enters false zero At answer f g = g ≡ f
Enters false (suc begun) At answer f g = At f g × Answers g answer false

-- a loop comes to its answer with so many iterations begun: its test and body do this
abbrev pub AtAnswer : (test_first : Test) → (Tests Bodies : Cells → Cells → Type 0) → Atom → (begun : ℕ) → Cells →
    Cells → Type 0
AtAnswer true T B answer zero f g = T f g
AtAnswer false T B answer zero f g = ⊥
AtAnswer first T B answer (suc begun) f g =
    (a : Cells) × Enters first begun (AtAnswer first T B answer begun) answer f a × ((b : Cells) × B a b × T b g)

-- lines lead from the one to the other
abbrev pub Does : Who → Lines → Cells → Cells → Type 0
Does who NoLine f g = g ≡ f
Does who (SetThen to work rest) f g = Does who rest (put f to (computed who f work)) g
Does who (LoadThen site to element root index rest) f g =
    (v : ℤ) × who.gives element root (atom_value f index) v × Does who rest (put f to v) g
Does who (StoreThen site element root index from rest) f g = Does who rest f g
Does who (ClearThen array rest) f g = Does who rest f g
Does who (IfThen site test chosen other rest) f g =
    (m : Cells) × ((Answers f test false × Does who chosen f m) ⊎ (Answers f test true × Does who other f m)) ×
    Does who rest m g
Does who (LoopThen site first test answer body rest) f g =
    (m : Cells) × ((begun : ℕ) × AtAnswer first (Does who test) (Does who body) answer begun f m ×
    Answers m answer true) × Does who rest m g
Does who (BarrierThen site rest) f g = Does who rest f g
