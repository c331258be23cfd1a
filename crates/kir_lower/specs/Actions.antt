-- The lines of single steps: each computes a new cell from atoms, sets a variable's cell, or accesses an element.
use Rattle.std.specs.Prelude.{ℕ, ◌+◌, ℤ, pos, List, [], ◌∷◌, Option, Some, None, map, if◌then◌else◌}
use Rattle.std.specs.Prelude.{Bool as Test, true, false}
use Rattle.wg_num.specs.declared.types.IntType.{IntType}
use Rattle.wg_num.specs.declared.types.IntType.TheVariants.{Int, Long}
use Rattle.wg_num.specs.declared.types.Un.TheVariants.{Not}
use Rattle.wg_num.specs.declared.types.Bin.{Bin}
use Rattle.wg_num.specs.declared.types.Bin.TheVariants.{And, Eq, Ne}
use Rattle.wg_num.specs.Builtins.{result_type}
use Rattle.cl_model.specs.declared.program.Root.{Root}
use Rattle.cl_model.specs.declared.program.Root.TheVariants.{Private}
use Rattle.cl_model.specs.Tree as tree
use Rattle.cl_model.specs.Tree.{Action}
use Rattle.cl_model.specs.Values.{number_of}
use Rattle.cl_model.specs.Valid.{unary_type, binary_type, query_type, promoted}
use Rattle.kir.specs.declared.line.Atom.{Atom}
use Rattle.kir.specs.declared.line.Atom.TheVariants.{Const, Cell as CellAtom}
use Rattle.kir.specs.Tree.{Work, Unary, Binary, Builtin, Convert, Ask, Copy, Lines, NoLine, SetThen, LoadThen}
use Rattle.kir.specs.Tree.{StoreThen, ClearThen, IfThen, LoopThen, BarrierThen, joined_to, OfFlag, OfValue}
use Rattle.kir_lower.specs.declared.places.Value.{Value}
use Rattle.kir_lower.specs.Made.{Made, next_cell, with_cell, Instance, type_at, root_in, int, constant}

-- lines that give a value, and what is made behind them
pub record Code : Type 0 where
  pub lines : Lines
  pub value : Value
  pub made : Made

-- lines, and what is made behind them
pub record Steps : Type 0 where
  pub lines : Lines
  pub made : Made

-- a value without a line
abbrev pub given : Value → Made → Code
given value made = record { lines = NoLine; value = value; made = made }

-- lines behind others, with the value of the last
abbrev pub behind : Lines → Code → Code
behind lines code = record { lines = joined_to lines code.lines; value = code.value; made = code.made }

-- a line that computes the value of a new cell
abbrev pub computed : Work → IntType → Made → Code
computed work of made = record {
  lines = SetThen (next_cell made) work NoLine;
  value = record { atom = CellAtom (next_cell made); of = of };
  made = with_cell made OfValue of;
}

-- an operator on two atoms
abbrev pub operated : Bin → IntType → Atom → Atom → Made → Code
operated op of a b made = computed (Binary op of a b) (binary_type op of) made

-- whether a value is not 0
abbrev pub truth : Value → Made → Code
truth a made = operated Ne a.of a.atom (Const (pos 0) a.of) made

-- a conversion
abbrev pub converted : IntType → Atom → Made → Code
converted to a made = computed (Convert to a) to made

-- the new value of a compound assignment: the old one in the type in which it computes, the result, and that in the
-- target's type
abbrev pub changed : (op : Bin) (of back : IntType) → (was by : Atom) → Made → Code
changed op of back was by made =
    let cw = converted of was made in
    let cn = operated op of cw.value.atom by cw.made in
    behind cw.lines (behind cn.lines (converted back cn.value.atom cn.made))

-- a line that sets a cell to an atom
abbrev pub set_to : ℕ → Atom → Lines
set_to cell atom = SetThen cell (Copy atom) NoLine

-- a line that loads an element into a new cell
abbrev pub loaded : ℕ → IntType → Root → Atom → Made → Code
loaded site element root index made = record {
  lines = LoadThen site (next_cell made) element root index NoLine;
  value = record { atom = CellAtom (next_cell made); of = element };
  made = with_cell made OfValue element;
}

-- a line that stores an element
abbrev pub stored : ℕ → IntType → Root → Atom → Atom → Lines
stored site element root index from = StoreThen site element root index from NoLine

-- the value of one of two branches, from the lines and the value of each: the last line of each sets one new cell
abbrev pub choice_code : (site : ℕ) → (test : Atom) → (first : Lines) → (chosen : Value) → (second : Lines) →
    (other : Value) → Made → Code
choice_code site test first chosen second other made = record {
  lines = IfThen site test
      (joined_to first (set_to (next_cell made) chosen.atom))
      (joined_to second (set_to (next_cell made) other.atom)) NoLine;
  value = record { atom = CellAtom (next_cell made); of = chosen.of };
  made = with_cell made OfValue chosen.of;
}

-- the first value, the second, and that of either which is not there
abbrev pub first : List Value → Value
first [] = constant (pos 0) Int
first (a ∷ values) = a

-- the second value
abbrev pub second : List Value → Value
second [] = constant (pos 0) Int
second (a ∷ values) = first values

-- the atoms of values
abbrev pub atoms_of : List Value → List Atom
atoms_of values = map (λ (v : Value). v.atom) values

-- the step of an action on the values of its operands
abbrev pub action_code : Instance → Action → List Value → Made → Code
action_code here (tree.Literal value of) values made = given (constant value of) made
-- a copy, since a later operand may set the variable
action_code here (tree.Variable x) values made = computed (Copy (CellAtom (here.base + x))) (type_at here x) made
action_code here (tree.Unary op of) values made = computed (Unary op of (first values).atom) (unary_type op of) made
action_code here (tree.Binary op of) values made = operated op of (first values).atom (second values).atom made
action_code here (tree.Builtin f of) values made = computed (Builtin f of (atoms_of values)) (result_type f of) made
action_code here (tree.Convert to) values made = converted to (first values).atom made
action_code here (tree.Ask what) values made = computed (Ask what (first values).atom) (query_type what) made
action_code here tree.Second values made = given (second values) made
action_code here tree.Truth values made = truth (first values) made
action_code here (tree.Decided answer) values made = given (constant (number_of answer) Int) made
action_code here (tree.Set x) values made =
    record { lines = set_to (here.base + x) (first values).atom; value = first values; made = made }
action_code here (tree.Change x op of back old) values made =
    let cc = changed op of back (first values).atom (second values).atom made in
    record {
      lines = joined_to cc.lines (set_to (here.base + x) cc.value.atom);
      value = (if old then first values else cc.value);
      made = cc.made;
    }
action_code here (tree.Load site element root) values made =
    loaded site element (root_in here root) (first values).atom made
action_code here (tree.Store site element root) values made =
    record {
      lines = stored site element (root_in here root) (first values).atom (second values).atom;
      value = second values;
      made = made;
    }

-- the stores of values into the elements of a private array, the first into that with this number
abbrev pub initial_lines : ℕ → IntType → ℕ → ℕ → List Value → Lines
initial_lines site element array k [] = NoLine
initial_lines site element array k (v ∷ values) =
    StoreThen site element (Private array) (Const (pos k) Long) v.atom (initial_lines site element array (k + 1) values)

-- ---- ways out

-- the cell of a construct with a way out, set to 0; without one, that around it
pub record Opened : Type 0 where
  pub lines : Lines
  pub exit : ℕ
  pub made : Made

-- the cell is a new one where there is a way out
abbrev pub opened : Option ℕ → (exit : ℕ) → Made → Opened
opened None exit made = record { lines = NoLine; exit = exit; made = made }
opened (Some site) exit made =
    record { lines = set_to (next_cell made) (int (pos 0)); exit = next_cell made; made = with_cell made OfFlag Int }

-- there is no line
abbrev pub is_none : Lines → Test
is_none NoLine = true
is_none (SetThen to work rest) = false
is_none (LoadThen site to element root index rest) = false
is_none (StoreThen site element root index from rest) = false
is_none (ClearThen array rest) = false
is_none (IfThen site test chosen other rest) = false
is_none (LoopThen site test_first test answer body rest) = false
is_none (BarrierThen site rest) = false

-- lines that are skipped where a way out is pending, before others; none where there is nothing to skip
abbrev pub guarded_before : ℕ → (exit : ℕ) → (inside rest : Lines) → Lines
guarded_before site exit inside rest = if is_none inside then rest else IfThen site (CellAtom exit) NoLine inside rest

-- lines in order, before others: guarded ones where there is a guard
abbrev pub closed : (guard : Option ℕ) → (exit : ℕ) → (inside rest : Lines) → Lines
closed None exit inside rest = joined_to inside rest
closed (Some site) exit inside rest = guarded_before site exit inside rest

-- a pending `continue` ends
abbrev pub settled : ℕ → (exit : ℕ) → Made → Steps
settled site exit made =
    let ct = operated Eq Int (CellAtom exit) (int (pos 1)) made in
    record {
      lines = joined_to ct.lines (IfThen site ct.value.atom (set_to exit (int (pos 0))) NoLine NoLine);
      made = ct.made;
    }

-- what is pending behind a construct is pending around it, but for a `break`, which ends
abbrev pub outward : Option ℕ → (exit outer : ℕ) → Made → Steps
outward None exit outer made = record { lines = NoLine; made = made }
outward (Some site) exit outer made =
    let ct = operated Eq Int (CellAtom exit) (int (pos 2)) made in
    record {
      lines = joined_to ct.lines (IfThen site ct.value.atom NoLine (set_to outer (CellAtom exit)) NoLine);
      made = ct.made;
    }

-- a loop, from the lines of its parts; where there is a way out of its body, the test and the step are skipped where
-- one is pending
abbrev pub round_code : (site : ℕ) → (test_first : Test) → Option ℕ → (exit : ℕ) → (test : Lines) → (answer : Value) →
    (step body : Lines) → Made → Steps
round_code site test_first None exit test answer step body made =
    record { lines = LoopThen site test_first test answer.atom (joined_to body step) NoLine; made = made }
round_code site test_first (Some way) exit test answer step body made =
    let to = next_cell made in
    let cs = settled way exit (with_cell made OfValue answer.of) in
    record {
      lines = LoopThen site test_first
          (SetThen to (Copy (Const (pos 0) answer.of))
          (IfThen way (CellAtom exit) NoLine (joined_to test (set_to to answer.atom)) NoLine))
          (CellAtom to)
          (joined_to body (joined_to cs.lines (guarded_before way exit step NoLine))) NoLine;
      made = cs.made;
    }

-- ---- the arms of a switch

-- the number of the arm with `default`, counted from this one, or that behind the last
abbrev pub default_number : ℕ → tree.Arms → ℕ
default_number k tree.no_arm = k
default_number k (tree.arm labels other body rest) = if other then k else default_number (k + 1) rest

-- the cell is set to the number where the value is the label
abbrev pub label_code : (site : ℕ) → Value → (chosen : ℕ) → ℕ → ℤ → Made → Steps
label_code site value chosen k label made =
    let ct = operated Eq value.of value.atom (Const label value.of) made in
    record {
      lines = joined_to ct.lines (IfThen site ct.value.atom (set_to chosen (int (pos k))) NoLine NoLine);
      made = ct.made;
    }

-- where it is one of the labels
abbrev pub labels_code : (site : ℕ) → Value → (chosen : ℕ) → ℕ → List ℤ → Made → Steps
labels_code site value chosen k [] made = record { lines = NoLine; made = made }
labels_code site value chosen k (label ∷ labels) made =
    let cl = label_code site value chosen k label made in
    let cr = labels_code site value chosen k labels cl.made in
    record { lines = joined_to cl.lines cr.lines; made = cr.made }

-- of each arm, the first with this number
abbrev pub all_labels_code : ℕ → Value → (chosen : ℕ) → ℕ → tree.Arms → Made → Steps
all_labels_code site value chosen k tree.no_arm made = record { lines = NoLine; made = made }
all_labels_code site value chosen k (tree.arm labels other body rest) made =
    let cl = labels_code site value chosen k labels made in
    let cr = all_labels_code site value chosen (k + 1) rest cl.made in
    record { lines = joined_to cl.lines cr.lines; made = cr.made }

-- the number of the arm that is chosen, in a new cell: the value in its promoted type is compared with each label
abbrev pub selected : ℕ → Value → tree.Arms → Made → Code
selected site value arms made =
    let cv = converted (promoted value.of) value.atom made in
    let to = next_cell cv.made in
    let cl = all_labels_code site cv.value to 0 arms (with_cell cv.made OfValue Int) in
    record {
      lines = joined_to cv.lines (SetThen to (Copy (int (pos (default_number 0 arms)))) cl.lines);
      value = record { atom = CellAtom to; of = Int };
      made = cl.made;
    }

-- whether the next arm is fallen into: this one was entered and, where it has a way out, nothing is pending
abbrev pub fallen_code : Option ℕ → (exit : ℕ) → (entered : Value) → Made → Code
fallen_code None exit entered made = given entered made
fallen_code (Some site) exit entered made =
    let cn = computed (Unary Not Int (CellAtom exit)) Int made in
    behind cn.lines (operated And Int entered.atom cn.value.atom cn.made)
