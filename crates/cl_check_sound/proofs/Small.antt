-- Each operation adds little to what its operands hold.
use Rattle.std.proofs.Common.{◌≡◌, ℕ, ℤ, pos, zero, suc, ◌+◌, ◌*◌, ◌≤◌, List, [], ◌∷◌, ◌++◌, length, Option, None}
use Rattle.std.proofs.Common.{Some, Bool, true, false, if◌then◌else◌, refl, ap, arith}
use Rattle.wg_num.specs.declared.types.IntType.{IntType}
use Rattle.wg_num.specs.declared.types.IntType.TheVariants as types
use Rattle.wg_num.specs.declared.types.Place.{Place}
use Rattle.wg_num.specs.declared.types.Bin.{Bin}
use Rattle.wg_num.specs.declared.types.Bin.TheVariants as bins
use Rattle.cl_model.specs.Tree as tree
use Rattle.cl_model.specs.Tree.{Apply, none, more, single}
use Rattle.cl_tree.specs.Syntax.{Syntax}
use Rattle.cl_tree.specs.Syntax as trees
use Rattle.cl_meaning.specs.declared.types.Declared.{Declared}
use Rattle.cl_meaning.specs.declared.operators.Prefix.{Prefix}
use Rattle.cl_meaning.specs.declared.operators.Prefix.TheVariants as prefixes
use Rattle.cl_meaning.specs.declared.operators.Postfix.{Postfix}
use Rattle.cl_meaning.specs.declared.operators.Postfix.TheVariants as postfixes
use Rattle.cl_meaning.specs.declared.operators.Setting.{Setting}
use Rattle.cl_meaning.specs.declared.operators.Setting.TheVariants as settings
use Rattle.cl_meaning.specs.declared.names.Intrinsic.{Intrinsic}
use Rattle.cl_meaning.specs.declared.names.Intrinsic.TheVariants as intrinsics
use Rattle.cl_meaning.specs.Conversions.{promoted, common, operand_type, right_type}
use Rattle.cl_meaning.specs.declared.kind.Each.TheVariants as each
use Rattle.cl_meaning.specs.declared.kind.Kind.{Kind}
use Rattle.cl_meaning.specs.declared.kind.Kind.TheVariants as kinds
use Rattle.cl_meaning.specs.declared.kind.Meaning.{Meaning}
use Rattle.cl_meaning.specs.declared.kind.Meaning.TheVariants as meanings
use Rattle.cl_meaning.specs.declared.kind.Parameter.{Parameter}
use Rattle.cl_meaning.specs.declared.kind.Parameter.TheVariants as parameters
use Rattle.cl_meaning.specs.Environment.{Env, meaning_of}
use Rattle.cl_meaning.specs.Kinds.{is_flag, builtin_type, Callee, defined, undefined, known}
use Rattle.cl_meaning.specs.Declarations.{first_type}
use Rattle.cl_meaning.specs.Typed.{What, nothing, value, target, offset, variable, element, Piece}
use Rattle.cl_meaning.specs.Expressions.{read, way, type_in, operand, joined_by, is_sub, moved, scaled, literal}
use Rattle.cl_meaning.specs.Expressions.{logical, binary_what, binary_made, and_made, or_made, choice_made}
use Rattle.cl_meaning.specs.Expressions.{comma_made, cast_made, set_what, set_made, step_what, index_made}
use Rattle.cl_meaning.specs.Expressions.{content_made, address_what, size_what, prefix_made, postfix_made}
use Rattle.cl_meaning.specs.Expressions.{expressions, passed, all_passed, operands, types_in, dimension, known_made}
use Rattle.cl_meaning.specs.Expressions.{call_made, number_what, truth_what, name_made, flagged_made}
use Rattle.cl_check_sound.specs.Shape.{IsType, PrefixOf}
use Rattle.cl_check_sound.proofs.Measure.{Weights, measure, measures, TargetFree, Free, target_free, operand_small}
use Rattle.cl_check_sound.proofs.Measure.{moved_small, moved_by_small, way_small, assigned_small, assigned_free}
use Rattle.cl_check_sound.proofs.Measure.{updated_small, updated_free}

-- what the sites below a number weigh
abbrev pub held : Weights → ℕ → ℕ
held m zero = 0
held m (suc n) = held m n + m.own n

-- a piece holds so little that what was before it and four nodes fit beside it
pub record Small (m : Weights) (before : ℕ) (w : What) (after : ℕ) : Type 0 where
  pub bound : measure m (read w) + (before + 4 * m.plain) ≤ after
  pub free : Free m before after w

length_snoc : (sites : List Place) (place : Place) → length (sites ++ place ∷ []) ≡ suc (length sites)
length_snoc [] place = refl
length_snoc (s ∷ sites) place = ap suc (length_snoc sites place)

-- one site more
pub held_more : (m : Weights) (sites : List Place) (place : Place) →
    held m (length (sites ++ place ∷ [])) ≡ held m (length sites) + m.own (length sites)
held_more m sites place = ap (held m) (length_snoc sites place)

pub target_of : (m : Weights) (before : ℕ) (w : What) (after : ℕ) → Small m before w after → TargetFree m w
target_of m before w after p = target_free m before after w p.free

-- ---- leaves

pub leaf_small : (m : Weights) (before : ℕ) (w : What) → measure m (read w) ≤ 4 * m.plain →
    ((b u : ℕ) → Free m b u w) → Small m before w (before + 16 * m.plain)
leaf_small m before w h f = record { bound = omega arith; free = f _ _ }

pub number_small : (m : Weights) (before : ℕ) (o : Option (IntType × ℕ)) →
    Small m before (number_what o) (before + 16 * m.plain)
number_small m before None = leaf_small m before nothing (omega arith) (λ b u. tt)
number_small m before (Some l) = leaf_small m before (value (literal (pos l.1) l.0)) (omega arith) (λ b u. tt)

pub truth_small : (m : Weights) (before : ℕ) (o : Option ℤ) → Small m before (truth_what o) (before + 16 * m.plain)
truth_small m before None = leaf_small m before nothing (omega arith) (λ b u. tt)
truth_small m before (Some v) = leaf_small m before (value (literal v types.Int)) (omega arith) (λ b u. tt)

-- the variables that are visible weigh nothing beside their nodes
abbrev pub MeaningFree : Weights → Meaning → Type 0
MeaningFree m (meanings.Scalar t c x) = m.named x ≡ 0
MeaningFree m (meanings.Pointer s e c r fixed x) = m.named x ≡ 0
MeaningFree m n = Unit {0}

abbrev pub AllFree : Weights → Env → Type 0
AllFree m env = (q : List ℕ) (n : Meaning) → meaning_of env q ≡ Some n → MeaningFree m n

name_small : (m : Weights) (place : Place) (sites : List Place) (o : Option Meaning) →
    ((n : Meaning) → o ≡ Some n → MeaningFree m n) →
    Small m (held m (length sites)) (name_made place sites o).what (held m (length (name_made place sites o).sites) +
    16 * m.plain)
name_small m place sites None h = leaf_small m (held m (length sites)) nothing (omega arith) (λ b u. tt)
name_small m place sites (Some (meanings.Scalar t c x)) h =
    let z : m.named x ≡ 0 = h (meanings.Scalar t c x) refl in
    leaf_small m (held m (length sites)) (target (variable x)) (omega arith) (λ b u. z)
name_small m place sites (Some (meanings.Pointer s e c r fixed x)) h =
    let z : m.named x ≡ 0 = h (meanings.Pointer s e c r fixed x) refl in
    leaf_small m (held m (length sites)) (target (variable x)) (omega arith) (λ b u. z)
name_small m place sites (Some (meanings.Object s e c r)) h =
    let q = held_more m sites place in record { bound = omega arith; free = tt }
name_small m place sites (Some (meanings.Array s e c r i)) h =
    leaf_small m (held m (length sites)) (offset None) (omega arith) (λ b u. tt)
name_small m place sites (Some (meanings.Function n)) h =
    leaf_small m (held m (length sites)) nothing (omega arith) (λ b u. tt)
name_small m place sites (Some meanings.Undefined) h =
    leaf_small m (held m (length sites)) nothing (omega arith) (λ b u. tt)
name_small m place sites (Some meanings.Kernel) h =
    leaf_small m (held m (length sites)) nothing (omega arith) (λ b u. tt)

pub variable_small : (m : Weights) (env : Env) (place : Place) (sites : List Place) (name : List ℕ) → AllFree m env →
    Small m (held m (length sites)) (flagged_made env place sites name).what
    (held m (length (flagged_made env place sites name).sites) + 16 * m.plain)
variable_small m env place sites name h = by (is_flag env name)
  where
    by : (b : Bool) → Small m (held m (length sites)) (if b then record {
      what = value (literal (pos 0) types.Uint);
      sites = sites;
    } else name_made place sites (meaning_of env name)).what
        (held m (length (if b then record {
          what = value (literal (pos 0) types.Uint);
          sites = sites;
        } else name_made place sites (meaning_of env name)).sites) + 16 * m.plain)
    by true = leaf_small m (held m (length sites)) (value (literal (pos 0) types.Uint)) (omega arith) (λ b u. tt)
    by false = name_small m place sites (meaning_of env name) (h name)

-- ---- one operand, and two

-- a node on two operands that adds four nodes at most
pub joined_small : (m : Weights) (w : What) (a b : Piece) (before between after x y : ℕ) →
    measure m (read w) ≤ 4 * m.plain + (measure m (read a.what) + measure m (read b.what)) →
    ((b u : ℕ) → Free m b u w) → Small m before a.what (between + x) → Small m between b.what (after + y) →
    Small m before w (after + (x + (y + 16 * m.plain)))
joined_small m w a b before between after x y h f p q = let u = p.bound in let v =
    q.bound in record { bound = omega arith; free = f _ _ }

pub alone_small : (m : Weights) (w : What) (a : Piece) (before after x : ℕ) →
    measure m (read w) ≤ 4 * m.plain + measure m (read a.what) → ((b u : ℕ) → Free m b u w) →
    Small m before a.what (after + x) → Small m before w (after + (x + 16 * m.plain))
alone_small m w a before after x h f p = let u = p.bound in record { bound = omega arith; free = f _ _ }

binary_bound : (m : Weights) (op : Bin) (a b : Piece) (j k : Option Kind) →
    measure m (read (binary_what op a b j k)) ≤ 4 * m.plain + (measure m (read a.what) + measure m (read b.what))
binary_bound m op a b (Some (kinds.Number t p)) (Some (kinds.Number u q)) =
    let x = operand_small m (operand_type op t u) a in let y = operand_small m (right_type op t u) b in omega arith
binary_bound m op a b (Some (kinds.Pointer s e c r i p)) (Some (kinds.Number u q)) = by (is_sub op)
  where
    by : (z : Bool) →
        measure m (read (if z then offset (Some (joined_by bins.Sub types.Long (read a.what) (operand types.Long b)))
        else offset (Some (moved (way a.what) (operand types.Long b))))) ≤ 4 * m.plain +
        (measure m (read a.what) + measure m (read b.what))
    by true = let y = operand_small m types.Long b in omega arith
    by false = let y = operand_small m types.Long b in let x =
        moved_small m a.what (operand types.Long b) in omega arith
binary_bound m op a b (Some (kinds.Number t p)) (Some (kinds.Pointer s e c r i q)) =
    let x = operand_small m types.Long a in let y = moved_by_small m (operand types.Long a) b.what in omega arith
binary_bound m op a b _ _ = omega arith

binary_free : (m : Weights) (op : Bin) (a b : Piece) (j k : Option Kind) → (y u : ℕ) →
    Free m y u (binary_what op a b j k)
binary_free m op a b (Some (kinds.Number t p)) (Some (kinds.Number u q)) y z = tt
binary_free m op a b (Some (kinds.Pointer s e c r i p)) (Some (kinds.Number u q)) y x = by (is_sub op)
  where
    by : (z : Bool) →
        Free m y x (if z then offset (Some (joined_by bins.Sub types.Long (read a.what) (operand types.Long b))) else
        offset (Some (moved (way a.what) (operand types.Long b))))
    by true = tt
    by false = tt
binary_free m op a b (Some (kinds.Number t p)) (Some (kinds.Pointer s e c r i q)) y z = tt
binary_free m op a b _ _ y z = tt

pub binary_small : (m : Weights) (o : Option Bin) (sites : List Place) (a b : Piece) (before between x y : ℕ) →
    Small m before a.what (between + x) → Small m between b.what (held m (length sites) + y) →
    Small m before (binary_made sites o (a ∷ b ∷ [])).what (held m (length (binary_made sites o (a ∷ b ∷ [])).sites) +
    (x + (y + 16 * m.plain)))
binary_small m None sites a b before between x y p q =
    joined_small m nothing a b before between (held m (length sites)) x y (omega arith) (λ b u. tt) p q
binary_small m (Some op) sites a b before between x y p q =
    joined_small m (binary_what op a b a.kind b.kind) a b before between (held m (length sites)) x y
    (binary_bound m op a b a.kind b.kind) (binary_free m op a b a.kind b.kind) p q

pub comma_small : (m : Weights) (sites : List Place) (a b : Piece) (before between x y : ℕ) →
    Small m before a.what (between + x) → Small m between b.what (held m (length sites) + y) →
    Small m before (comma_made sites (a ∷ b ∷ [])).what (held m (length sites) + (x + (y + 16 * m.plain)))
comma_small m sites a b before between x y p q =
    joined_small m (comma_made sites (a ∷ b ∷ [])).what a b before between (held m (length sites)) x y (omega arith)
    (λ b u. tt) p q

logical_small : (m : Weights) (a : Piece) → measure m (logical a) ≤ m.plain + measure m (read a.what)
logical_small m a = operand_small m (promoted (type_in a.kind)) a

pub and_small : (m : Weights) (place : Place) (sites : List Place) (a b : Piece) (before between x y : ℕ) →
    Small m before a.what (between + x) → Small m between b.what (held m (length sites) + y) →
    Small m before (and_made place sites (a ∷ b ∷ [])).what
    (held m (length (and_made place sites (a ∷ b ∷ [])).sites) + (x + (y + 16 * m.plain)))
and_small m place sites a b before between x y p q =
    let u = p.bound in let v = q.bound in let c = logical_small m a in let d = logical_small m b in let e =
    held_more m sites place in record { bound = omega arith; free = tt }

pub or_small : (m : Weights) (place : Place) (sites : List Place) (a b : Piece) (before between x y : ℕ) →
    Small m before a.what (between + x) → Small m between b.what (held m (length sites) + y) →
    Small m before (or_made place sites (a ∷ b ∷ [])).what (held m (length (or_made place sites (a ∷ b ∷ [])).sites) +
    (x + (y + 16 * m.plain)))
or_small m place sites a b before between x y p q =
    let u = p.bound in let v = q.bound in let c = logical_small m a in let d = logical_small m b in let e =
    held_more m sites place in record { bound = omega arith; free = tt }

pub choice_small : (m : Weights) (place : Place) (sites : List Place) (c a b : Piece)
    (before first second z x y : ℕ) → Small m before c.what (first + z) → Small m first a.what (second + x) →
    Small m second b.what (held m (length sites) + y) →
    Small m before (choice_made place sites (c ∷ a ∷ b ∷ [])).what
    (held m (length (choice_made place sites (c ∷ a ∷ b ∷ [])).sites) + (z + (x + (y + 16 * m.plain))))
choice_small m place sites c a b before first second z x y r p q =
    let t = r.bound in let u = p.bound in let v = q.bound in
    let d = operand_small m (common (type_in a.kind) (type_in b.kind)) a in let e =
    operand_small m (common (type_in a.kind) (type_in b.kind)) b in
    let g = held_more m sites place in record { bound = omega arith; free = tt }

-- the type of a cast is no piece
pub cast_small : (m : Weights) (sites : List Place) (o : Option Declared) (t a : Piece) (before x : ℕ) →
    Small m before a.what (held m (length sites) + x) →
    Small m before (cast_made sites o (t ∷ a ∷ [])).what (held m (length (cast_made sites o (t ∷ a ∷ [])).sites) +
    (x + 16 * m.plain))
cast_small m sites None t a before x p =
    alone_small m nothing a before (held m (length sites)) x (omega arith) (λ b u. tt) p
cast_small m sites (Some d) t a before x p =
    alone_small m (value (operand d.of a)) a before (held m (length sites)) x (let c = operand_small m d.of a in
    omega arith) (λ b u. tt) p

-- ---- assignments

set_bound : (m : Weights) (s : Setting) (a b : Piece) (j : Option Kind) → TargetFree m a.what →
    measure m (read (set_what s a b j)) ≤ 4 * m.plain + (measure m (read a.what) + measure m (read b.what))
set_bound m settings.Plain a b (Some (kinds.Number t p)) f = let c = operand_small m t b in let d =
    assigned_small m a.what (operand t b) in omega arith
set_bound m settings.Plain a b (Some (kinds.Pointer s e c r i p)) f = let d =
    assigned_small m a.what (read b.what) in omega arith
set_bound m settings.Plain a b (Some kinds.Nothing) f = let d = assigned_small m a.what (read b.what) in omega arith
set_bound m settings.Plain a b None f = let d = assigned_small m a.what (read b.what) in omega arith
set_bound m (settings.With op) a b (Some (kinds.Number t p)) f =
    let c = operand_small m (right_type op t (type_in b.kind)) b in let d =
    updated_small m a.what op (operand_type op t (type_in b.kind)) t false
    (operand (right_type op t (type_in b.kind)) b) f in omega arith
set_bound m (settings.With op) a b (Some (kinds.Pointer s e c r i p)) f = let c = operand_small m types.Long b in
    let d = updated_small m a.what op types.Long types.Long false (operand types.Long b) f in omega arith
set_bound m (settings.With op) a b (Some kinds.Nothing) f = let c = operand_small m types.Long b in let d =
    updated_small m a.what op types.Long types.Long false (operand types.Long b) f in omega arith
set_bound m (settings.With op) a b None f = let c = operand_small m types.Long b in let d =
    updated_small m a.what op types.Long types.Long false (operand types.Long b) f in omega arith

set_free : (m : Weights) (s : Setting) (a b : Piece) (j : Option Kind) → (y u : ℕ) → Free m y u (set_what s a b j)
set_free m settings.Plain a b (Some (kinds.Number t p)) = assigned_free m a.what (operand t b)
set_free m settings.Plain a b (Some (kinds.Pointer s e c r i p)) = assigned_free m a.what (read b.what)
set_free m settings.Plain a b (Some kinds.Nothing) = assigned_free m a.what (read b.what)
set_free m settings.Plain a b None = assigned_free m a.what (read b.what)
set_free m (settings.With op) a b (Some (kinds.Number t p)) =
    updated_free m a.what op (operand_type op t (type_in b.kind)) t false (operand (right_type op t (type_in b.kind)) b)
set_free m (settings.With op) a b (Some (kinds.Pointer s e c r i p)) =
    updated_free m a.what op types.Long types.Long false (operand types.Long b)
set_free m (settings.With op) a b (Some kinds.Nothing) =
    updated_free m a.what op types.Long types.Long false (operand types.Long b)
set_free m (settings.With op) a b None = updated_free m a.what op types.Long types.Long false (operand types.Long b)

pub set_small : (m : Weights) (o : Option Setting) (sites : List Place) (a b : Piece) (before between x y : ℕ) →
    Small m before a.what (between + x) → Small m between b.what (held m (length sites) + y) →
    Small m before (set_made sites o (a ∷ b ∷ [])).what (held m (length (set_made sites o (a ∷ b ∷ [])).sites) +
    (x + (y + 16 * m.plain)))
set_small m None sites a b before between x y p q =
    joined_small m nothing a b before between (held m (length sites)) x y (omega arith) (λ b u. tt) p q
set_small m (Some s) sites a b before between x y p q =
    joined_small m (set_what s a b a.kind) a b before between (held m (length sites)) x y
    (set_bound m s a b a.kind (target_of m _ _ _ p)) (set_free m s a b a.kind) p q

step_bound : (m : Weights) (op : Bin) (old : Bool) (a : Piece) (j : Option Kind) → TargetFree m a.what →
    measure m (read (step_what op old a j)) ≤ 4 * m.plain + measure m (read a.what)
step_bound m op old a (Some (kinds.Number t p)) f = let d =
    updated_small m a.what op (operand_type op t types.Int) t old (literal (pos 1) (operand_type op t types.Int)) f in
    omega arith
step_bound m op old a (Some (kinds.Pointer s e c r i p)) f = let d =
    updated_small m a.what op types.Long types.Long old (literal (pos 1) types.Long) f in omega arith
step_bound m op old a (Some kinds.Nothing) f = let d =
    updated_small m a.what op types.Long types.Long old (literal (pos 1) types.Long) f in omega arith
step_bound m op old a None f = let d =
    updated_small m a.what op types.Long types.Long old (literal (pos 1) types.Long) f in omega arith

step_free : (m : Weights) (op : Bin) (old : Bool) (a : Piece) (j : Option Kind) → (y u : ℕ) →
    Free m y u (step_what op old a j)
step_free m op old a (Some (kinds.Number t p)) =
    updated_free m a.what op (operand_type op t types.Int) t old (literal (pos 1) (operand_type op t types.Int))
step_free m op old a (Some (kinds.Pointer s e c r i p)) =
    updated_free m a.what op types.Long types.Long old (literal (pos 1) types.Long)
step_free m op old a (Some kinds.Nothing) =
    updated_free m a.what op types.Long types.Long old (literal (pos 1) types.Long)
step_free m op old a None = updated_free m a.what op types.Long types.Long old (literal (pos 1) types.Long)

-- ---- elements

-- a piece that may take a site
abbrev pub SmallMade : Weights → ℕ → What → List Place → ℕ → Type 0
SmallMade m before w sites x = Small m before w (held m (length sites) + x)

index_small : (m : Weights) (place : Place) (sites : List Place) (a b : Piece) (j : Option Kind)
    (before between x y : ℕ) → Small m before a.what (between + x) →
    Small m between b.what (held m (length sites) + y) →
    SmallMade m before (index_made place sites a b j).what (index_made place sites a b j).sites (x + (y + 16 * m.plain))
index_small m place sites a b (Some (kinds.Pointer s e c r each.Element p')) before between x y p q =
    let u = p.bound in let v = q.bound in let d = operand_small m types.Long b in let g =
    moved_small m a.what (operand types.Long b) in let h = held_more m sites place in
    record { bound = omega arith; free = tt }
index_small m place sites a b (Some (kinds.Pointer s e c r (each.Row n) p')) before between x y p q =
    let u = p.bound in let v = q.bound in let d = operand_small m types.Long b in let g =
    moved_small m a.what (scaled (operand types.Long b) n) in record { bound = omega arith; free = tt }
index_small m place sites a b (Some (kinds.Pointer s e c r (each.Plane k n) p')) before between x y p q =
    let u = p.bound in let v = q.bound in let d = operand_small m types.Long b in let g =
    moved_small m a.what (scaled (operand types.Long b) (k * n)) in record { bound = omega arith; free = tt }
index_small m place sites a b (Some (kinds.Number t r)) before between x y p q =
    joined_small m nothing a b before between (held m (length sites)) x y (omega arith) (λ b u. tt) p q
index_small m place sites a b (Some kinds.Nothing) before between x y p q =
    joined_small m nothing a b before between (held m (length sites)) x y (omega arith) (λ b u. tt) p q
index_small m place sites a b None before between x y p q =
    joined_small m nothing a b before between (held m (length sites)) x y (omega arith) (λ b u. tt) p q

content_small : (m : Weights) (place : Place) (sites : List Place) (a : Piece) (j : Option Kind) (before x : ℕ) →
    Small m before a.what (held m (length sites) + x) →
    SmallMade m before (content_made place sites a j).what (content_made place sites a j).sites (x + 16 * m.plain)
content_small m place sites a (Some (kinds.Pointer s e c r each.Element p')) before x p = let u = p.bound in let h =
    held_more m sites place in record { bound = omega arith; free = tt }
content_small m place sites a (Some (kinds.Pointer s e c r (each.Row n) p')) before x p =
    alone_small m (offset (way a.what)) a before (held m (length sites)) x (let d = way_small m a.what in
    omega arith) (λ b u. tt) p
content_small m place sites a (Some (kinds.Pointer s e c r (each.Plane k n) p')) before x p =
    alone_small m (offset (way a.what)) a before (held m (length sites)) x (let d = way_small m a.what in
    omega arith) (λ b u. tt) p
content_small m place sites a (Some (kinds.Number t r)) before x p =
    alone_small m nothing a before (held m (length sites)) x (omega arith) (λ b u. tt) p
content_small m place sites a (Some kinds.Nothing) before x p =
    alone_small m nothing a before (held m (length sites)) x (omega arith) (λ b u. tt) p
content_small m place sites a None before x p =
    alone_small m nothing a before (held m (length sites)) x (omega arith) (λ b u. tt) p

address_bound : (m : Weights) (w : What) → (measure m (read (address_what w)) ≤ m.plain + measure m (read w)) ×
    ((b u : ℕ) → Free m b u (address_what w))
address_bound m (target (element s t r i)) = (omega arith, λ b u. tt)
address_bound m (target (variable x)) = (omega arith, λ b u. tt)
address_bound m _ = (omega arith, λ b u. tt)

size_bound : (m : Weights) (o : Option Declared) → (measure m (read (size_what o)) ≤ m.plain) ×
    ((b u : ℕ) → Free m b u (size_what o))
size_bound m None = (omega arith, λ b u. tt)
size_bound m (Some d) = (omega arith, λ b u. tt)

-- an operator in front of an operand, or of a type, which takes no site
pub prefix_small : (m : Weights) (place : Place) (sites : List Place) (o : Option Prefix) (p : Syntax) (e : Type 0)
    (a : Piece) (before x : ℕ) → PrefixOf o p e → (e → Small m before a.what (held m (length sites) + x)) →
    (IsType p → before ≤ held m (length sites) + x) →
    SmallMade m before (prefix_made place sites (trees.more p trees.none) o (a ∷ [])).what
    (prefix_made place sites (trees.more p trees.none) o (a ∷ [])).sites (x + 16 * m.plain)
prefix_small m place sites None p e a before x h g d = absurd h
prefix_small m place sites (Some (prefixes.Step op)) p e a before x h g d =
    let q = g h in alone_small m (step_what op false a a.kind) a before (held m (length sites)) x
    (step_bound m op false a a.kind (target_of m _ _ _ q)) (step_free m op false a a.kind) q
prefix_small m place sites (Some (prefixes.Operator op)) p e a before x h g d =
    alone_small m (value (Apply (tree.Unary op (promoted (type_in a.kind))) (single (logical a)))) a before
    (held m (length sites)) x (let c = logical_small m a in omega arith) (λ b u. tt) (g h)
prefix_small m place sites (Some prefixes.Address) p e a before x h g d =
    alone_small m (address_what a.what) a before (held m (length sites)) x (let c = (address_bound m a.what).0 in
    omega arith) (address_bound m a.what).1 (g h)
prefix_small m place sites (Some prefixes.Content) p e a before x h g d =
    content_small m place sites a a.kind before x (g h)
prefix_small m place sites (Some prefixes.Size) p e a before x h g d =
    let c = size_bound m (first_type (trees.more p trees.none)) in let k = d h in let l =
    c.0 in record { bound = omega arith; free = c.1 _ _ }

pub step_small : (m : Weights) (place : Place) (sites : List Place) (o : Option Postfix) (a : Piece) (before x : ℕ) →
    Small m before a.what (held m (length sites) + x) →
    SmallMade m before (postfix_made place sites o (a ∷ [])).what (postfix_made place sites o (a ∷ [])).sites
    (x + 16 * m.plain)
step_small m place sites None a before x p =
    alone_small m nothing a before (held m (length sites)) x (omega arith) (λ b u. tt) p
step_small m place sites (Some postfixes.Index) a before x p =
    alone_small m nothing a before (held m (length sites)) x (omega arith) (λ b u. tt) p
step_small m place sites (Some (postfixes.Step op)) a before x p =
    alone_small m (step_what op true a a.kind) a before (held m (length sites)) x
    (step_bound m op true a a.kind (target_of m _ _ _ p)) (step_free m op true a a.kind) p

pub indexed_small : (m : Weights) (place : Place) (sites : List Place) (o : Option Postfix) (a b : Piece)
    (before between x y : ℕ) → Small m before a.what (between + x) →
    Small m between b.what (held m (length sites) + y) →
    SmallMade m before (postfix_made place sites o (a ∷ b ∷ [])).what (postfix_made place sites o (a ∷ b ∷ [])).sites
    (x + (y + 16 * m.plain))
indexed_small m place sites None a b before between x y p q =
    joined_small m nothing a b before between (held m (length sites)) x y (omega arith) (λ b u. tt) p q
indexed_small m place sites (Some postfixes.Index) a b before between x y p q =
    index_small m place sites a b a.kind before between x y p q
indexed_small m place sites (Some (postfixes.Step op)) a b before between x y p q =
    joined_small m nothing a b before between (held m (length sites)) x y (omega arith) (λ b u. tt) p q

-- ---- calls

-- arguments, with four nodes for each
abbrev pub room : Weights → List Piece → ℕ
room m [] = 0
room m (p ∷ ps) = (measure m (read p.what) + 4 * m.plain) + room m ps

passed_small : (m : Weights) (q : Parameter) (p : Piece) → measure m (passed q p) ≤ m.plain + measure m (read p.what)
passed_small m (parameters.Number t) p = operand_small m t p
passed_small m (parameters.Pointer s e c) p = omega arith
passed_small m parameters.Outside p = omega arith

all_passed_small : (m : Weights) (qs : List Parameter) (ps : List Piece) → measures m (all_passed qs ps) ≤ room m ps
all_passed_small m [] ps = omega arith
all_passed_small m (q ∷ qs) [] = omega arith
all_passed_small m (q ∷ qs) (p ∷ ps) = let a = passed_small m q p in let b = all_passed_small m qs ps in omega arith

pub operands_small : (m : Weights) (t : IntType) (ps : List Piece) →
    measures m (expressions (operands t ps)) ≤ room m ps
operands_small m t [] = omega arith
operands_small m t (p ∷ ps) = let a = operand_small m t p in let b = operands_small m t ps in omega arith

dimension_small : (m : Weights) (ps : List Piece) → measure m (dimension ps) ≤ m.plain + room m ps
dimension_small m [] = omega arith
dimension_small m (p ∷ ps) = let a = operand_small m types.Uint p in omega arith

-- the call itself
abbrev pub callee_weight : Weights → Option Callee → ℕ
callee_weight m (Some (defined n g)) = m.called n
callee_weight m c = 0

known_small : (m : Weights) (place : Place) (sites : List Place) (ps : List Piece) (i : Intrinsic) (before x : ℕ) →
    room m ps + before ≤ held m (length sites) + x →
    SmallMade m before (known_made place sites ps i).what (known_made place sites ps i).sites (x + (0 + 16 * m.plain))
known_small m place sites ps (intrinsics.Function f) before x h = let a =
    operands_small m (builtin_type (types_in ps)) ps in record { bound = omega arith; free = tt }
known_small m place sites ps (intrinsics.Query q) before x h = let a =
    dimension_small m ps in record { bound = omega arith; free = tt }
known_small m place sites ps intrinsics.Barrier before x h = let a =
    held_more m sites place in record { bound = omega arith; free = omega arith }
known_small m place sites ps intrinsics.Fence before x h = record { bound = omega arith; free = tt }

pub call_small : (m : Weights) (place : Place) (sites : List Place) (ps : List Piece) (o : Option Callee)
    (before x : ℕ) → room m ps + before ≤ held m (length sites) + x →
    SmallMade m before (call_made place sites ps o).what (call_made place sites ps o).sites
    (x + (callee_weight m o + 16 * m.plain))
call_small m place sites ps (Some (defined n g)) before x h = let a = all_passed_small m g.parameters ps in let b =
    held_more m sites place in record { bound = omega arith; free = tt }
call_small m place sites ps (Some undefined) before x h = record { bound = omega arith; free = tt }
call_small m place sites ps (Some (known i)) before x h = known_small m place sites ps i before x h
call_small m place sites ps None before x h = record { bound = omega arith; free = tt }
