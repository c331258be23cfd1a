-- What expressions stand for, from what their parts stand for: names are numbers, conversions are written out, and each
-- operation that can be named has a site. Sites are numbered in the order of the nodes that take one.
use Rattle.std.specs.Prelude.{ℕ, ℤ, pos, ◌*◌, Bool, true, false, List, [], ◌∷◌, ◌++◌, length, map, Option, None, Some}
use Rattle.std.specs.Prelude.{if◌then◌else◌}
use Rattle.wg_num.specs.declared.types.IntType.{IntType}
use Rattle.wg_num.specs.declared.types.Place.{Place}
use Rattle.wg_num.specs.declared.types.IntType.TheVariants as types
use Rattle.wg_num.specs.declared.types.Bin.{Bin}
use Rattle.wg_num.specs.declared.types.Bin.TheVariants as bins
use Rattle.wg_num.specs.Bytes.{size_of}
use Rattle.wg_num.specs.Types.{same_type}
use Rattle.cl_model.specs.declared.program.Root.{Root}
use Rattle.cl_model.specs.Tree as tree
use Rattle.cl_model.specs.Tree.{Expression, Expressions, Apply, single, pair, truth_of, decided}
use Rattle.cl_tree.specs.Syntax.{Forest}
use Rattle.cl_meaning.specs.declared.types.Declared.{Declared}
use Rattle.cl_meaning.specs.declared.operators.Prefix.{Prefix}
use Rattle.cl_meaning.specs.declared.operators.Prefix.TheVariants as prefixes
use Rattle.cl_meaning.specs.declared.operators.Postfix.{Postfix}
use Rattle.cl_meaning.specs.declared.operators.Postfix.TheVariants as postfixes
use Rattle.cl_meaning.specs.declared.operators.Setting.{Setting}
use Rattle.cl_meaning.specs.declared.operators.Setting.TheVariants as settings
use Rattle.cl_meaning.specs.declared.names.Intrinsic.{Intrinsic}
use Rattle.cl_meaning.specs.declared.names.Intrinsic.TheVariants as intrinsics
use Rattle.cl_meaning.specs.Conversions.{promoted, common, operand_type, right_type}
use Rattle.cl_meaning.specs.declared.kind.Each.TheVariants as each
use Rattle.cl_meaning.specs.declared.kind.Kind.{Kind}
use Rattle.cl_meaning.specs.declared.kind.Kind.TheVariants as kinds
use Rattle.cl_meaning.specs.declared.kind.Meaning.{Meaning}
use Rattle.cl_meaning.specs.declared.kind.Meaning.TheVariants as meanings
use Rattle.cl_meaning.specs.declared.kind.Parameter.{Parameter}
use Rattle.cl_meaning.specs.declared.kind.Parameter.TheVariants as parameters
use Rattle.cl_meaning.specs.Environment.{Env, meaning_of}
use Rattle.cl_meaning.specs.Kinds.{type_of, is_flag, counted, builtin_type, Callee, defined, undefined}
use Rattle.cl_meaning.specs.Kinds.{known}
use Rattle.cl_meaning.specs.Declarations.{first_type}
use Rattle.cl_meaning.specs.Typed.{Target, variable, element, What, nothing, value, target, offset, barrier, fence}
use Rattle.cl_meaning.specs.Typed.{Piece, Built}

-- ---- pieces

abbrev pub made : What → List Place → Built
made w sites = record { what = w; sites = sites }

-- a node that takes a site: that of its first token
abbrev pub sited : Place → List Place → (ℕ → What) → Built
sited place sites w = made (w (length sites)) (sites ++ place ∷ [])

abbrev pub literal : ℤ → IntType → Expression
literal v t = Apply (tree.Literal v t) tree.none

-- an offset of nothing
abbrev pub zero_offset : Expression
zero_offset = literal (pos 0) types.Long

abbrev pub or_zero : Option Expression → Expression
or_zero None = zero_offset
or_zero (Some e) = e

abbrev pub read_target : Target → Expression
read_target (variable x) = Apply (tree.Variable x) tree.none
read_target (element s t r i) = Apply (tree.Load s t r) (single i)

-- the value of a piece; of a pointer, its offset
abbrev pub read : What → Expression
read (value e) = e
read (target p) = read_target p
read (offset o) = or_zero o
read w = zero_offset

-- the offset of a pointer, where it is not the first element of its array
abbrev pub way : What → Option Expression
way (offset o) = o
way w = Some (read w)

abbrev pub type_in : Option Kind → IntType
type_in None = types.Int
type_in (Some k) = type_of k

-- a value of one type as one of another; no conversion to the same type is written
abbrev pub convert : (to from : IntType) → Expression → Expression
convert to from e = if same_type to from then e else Apply (tree.Convert to) (single e)

-- the value of a piece, converted
abbrev pub operand : IntType → Piece → Expression
operand to p = convert to (type_in p.kind) (read p.what)

abbrev pub joined_by : Bin → IntType → Expression → Expression → Expression
joined_by op of a b = Apply (tree.Binary op of) (pair a b)

-- an index behind an offset
abbrev pub moved : Option Expression → Expression → Expression
moved None i = i
moved (Some o) i = joined_by bins.Add types.Long o i

-- an offset behind an index
abbrev pub moved_by : Expression → Option Expression → Expression
moved_by i None = i
moved_by i (Some o) = joined_by bins.Add types.Long i o

-- ---- names

abbrev pub name_made : Place → List Place → Option Meaning → Built
name_made place sites (Some (meanings.Scalar t c x)) = made (target (variable x)) sites
name_made place sites (Some (meanings.Pointer s e c r fixed x)) = made (target (variable x)) sites
name_made place sites (Some (meanings.Object s e c r)) =
    sited place sites (λ site. target (element site e r zero_offset))
name_made place sites (Some (meanings.Array s e c r i)) = made (offset None) sites
name_made place sites m = made nothing sites

-- ---- operators

abbrev pub is_sub : Bin → Bool
is_sub bins.Sub = true
is_sub op = false

-- a number moves a pointer forward, or back
abbrev pub pointer_moved : Bin → Piece → Piece → What
pointer_moved op a b = if is_sub op then offset
    (Some (joined_by bins.Sub types.Long (read a.what) (operand types.Long b))) else offset
    (Some (moved (way a.what) (operand types.Long b)))

abbrev pub binary_what : Bin → Piece → Piece → Option Kind → Option Kind → What
binary_what op a b (Some (kinds.Number t p)) (Some (kinds.Number u q)) =
    value (joined_by op (operand_type op t u) (operand (operand_type op t u) a) (operand (right_type op t u) b))
binary_what op a b (Some (kinds.Pointer s e c r i p)) (Some (kinds.Number u q)) = pointer_moved op a b
binary_what op a b (Some (kinds.Number t p)) (Some (kinds.Pointer s e c r i q)) =
    offset (Some (moved_by (operand types.Long a) (way b.what)))
binary_what op a b j k = nothing

abbrev pub binary_made : List Place → Option Bin → List Piece → Built
binary_made sites (Some op) (a ∷ b ∷ []) = made (binary_what op a b a.kind b.kind) sites
binary_made sites op ps = made nothing sites

-- a number as && and || take it
abbrev pub logical : Piece → Expression
logical p = operand (promoted (type_in p.kind)) p

abbrev pub and_made : Place → List Place → List Piece → Built
and_made place sites (a ∷ b ∷ []) =
    sited place sites (λ site. value (tree.Choose site (logical a) (truth_of (logical b)) (decided false)))
and_made place sites ps = made nothing sites

abbrev pub or_made : Place → List Place → List Piece → Built
or_made place sites (a ∷ b ∷ []) =
    sited place sites (λ site. value (tree.Choose site (logical a) (decided true) (truth_of (logical b))))
or_made place sites ps = made nothing sites

abbrev pub choice_made : Place → List Place → List Piece → Built
choice_made place sites (c ∷ a ∷ b ∷ []) =
    sited place sites (λ site. value
    (tree.Choose site (read c.what) (operand (common (type_in a.kind) (type_in b.kind)) a)
    (operand (common (type_in a.kind) (type_in b.kind)) b)))
choice_made place sites ps = made nothing sites

abbrev pub comma_made : List Place → List Piece → Built
comma_made sites (a ∷ b ∷ []) = made (value (Apply tree.Second (pair (read a.what) (read b.what)))) sites
comma_made sites ps = made nothing sites

abbrev pub cast_made : List Place → Option Declared → List Piece → Built
cast_made sites (Some d) (t ∷ a ∷ []) = made (value (operand d.of a)) sites
cast_made sites d ps = made nothing sites

-- ---- assignments

abbrev pub assigned : What → Expression → What
assigned (target (variable x)) v = value (Apply (tree.Set x) (single v))
assigned (target (element s t r i)) v = value (Apply (tree.Store s t r) (pair i v))
assigned w v = nothing

-- the target set to the result of an operator, which computes in a type, on its old value and another
abbrev pub updated : What → Bin → (of back : IntType) → (old : Bool) → Expression → What
updated (target (variable x)) op of back old v =
    value (Apply (tree.Change x op of back old) (pair (Apply (tree.Variable x) tree.none) v))
updated (target (element s t r i)) op of back old v = value (tree.Update s t r op of back old i v)
updated w op of back old v = nothing

-- a pointer variable keeps its offset, which is a long
abbrev pub set_what : Setting → Piece → Piece → Option Kind → What
set_what settings.Plain a b (Some (kinds.Number t p)) = assigned a.what (operand t b)
set_what settings.Plain a b k = assigned a.what (read b.what)
set_what (settings.With op) a b (Some (kinds.Number t p)) =
    updated a.what op (operand_type op t (type_in b.kind)) t false (operand (right_type op t (type_in b.kind)) b)
set_what (settings.With op) a b k = updated a.what op types.Long types.Long false (operand types.Long b)

abbrev pub set_made : List Place → Option Setting → List Piece → Built
set_made sites (Some s) (a ∷ b ∷ []) = made (set_what s a b a.kind) sites
set_made sites s ps = made nothing sites

-- ++ and --
abbrev pub step_what : Bin → Bool → Piece → Option Kind → What
step_what op old a (Some (kinds.Number t p)) =
    updated a.what op (operand_type op t types.Int) t old (literal (pos 1) (operand_type op t types.Int))
step_what op old a k = updated a.what op types.Long types.Long old (literal (pos 1) types.Long)

-- ---- elements

abbrev pub scaled : Expression → ℕ → Expression
scaled i n = joined_by bins.Mul types.Long i (literal (pos n) types.Long)

abbrev pub index_made : Place → List Place → Piece → Piece → Option Kind → Built
index_made place sites a b (Some (kinds.Pointer s e c r each.Element p)) =
    sited place sites (λ site. target (element site e r (moved (way a.what) (operand types.Long b))))
index_made place sites a b (Some (kinds.Pointer s e c r (each.Row n) p)) =
    made (offset (Some (moved (way a.what) (scaled (operand types.Long b) n)))) sites
index_made place sites a b (Some (kinds.Pointer s e c r (each.Plane m n) p)) =
    made (offset (Some (moved (way a.what) (scaled (operand types.Long b) (m * n))))) sites
index_made place sites a b j = made nothing sites

-- the first element, or the first row
abbrev pub content_made : Place → List Place → Piece → Option Kind → Built
content_made place sites a (Some (kinds.Pointer s e c r each.Element p)) =
    sited place sites (λ site. target (element site e r (read a.what)))
content_made place sites a (Some (kinds.Pointer s e c r i p)) = made (offset (way a.what)) sites
content_made place sites a j = made nothing sites

abbrev pub address_what : What → What
address_what (target (element s t r i)) = offset (Some i)
address_what w = nothing

abbrev pub size_what : Option Declared → What
size_what None = nothing
size_what (Some d) = value (literal (pos (size_of d.of)) types.Ulong)

abbrev pub prefix_made : Place → List Place → Forest → Option Prefix → List Piece → Built
prefix_made place sites parts (Some (prefixes.Step op)) (a ∷ []) = made (step_what op false a a.kind) sites
prefix_made place sites parts (Some (prefixes.Operator op)) (a ∷ []) =
    made (value (Apply (tree.Unary op (promoted (type_in a.kind))) (single (logical a)))) sites
prefix_made place sites parts (Some prefixes.Address) (a ∷ []) = made (address_what a.what) sites
prefix_made place sites parts (Some prefixes.Content) (a ∷ []) = content_made place sites a a.kind
prefix_made place sites parts (Some prefixes.Size) ps = made (size_what (first_type parts)) sites
prefix_made place sites parts p ps = made nothing sites

abbrev pub postfix_made : Place → List Place → Option Postfix → List Piece → Built
postfix_made place sites (Some postfixes.Index) (a ∷ b ∷ []) = index_made place sites a b a.kind
postfix_made place sites (Some (postfixes.Step op)) (a ∷ []) = made (step_what op true a a.kind) sites
postfix_made place sites p ps = made nothing sites

-- ---- calls

abbrev pub expressions : List Expression → Expressions
expressions [] = tree.none
expressions (e ∷ es) = tree.more e (expressions es)

-- an argument: a number converted to the parameter's type, or the offset of a pointer
abbrev pub passed : Parameter → Piece → Expression
passed (parameters.Number t) a = operand t a
passed p a = read a.what

abbrev pub all_passed : List Parameter → List Piece → Expressions
all_passed (p ∷ ps) (a ∷ as') = tree.more (passed p a) (all_passed ps as')
all_passed ps as' = tree.none

-- the root of an argument that is a pointer
abbrev pub root_in : Option Kind → Option Root
root_in (Some (kinds.Pointer s e c r i p)) = Some r
root_in k = None

-- for each argument that a parameter takes
abbrev pub roots_passed : List Parameter → List Piece → List (Option Root)
roots_passed (p ∷ ps) (a ∷ as') = root_in a.kind ∷ roots_passed ps as'
roots_passed ps as' = []

abbrev pub types_in : List Piece → List IntType
types_in [] = []
types_in (a ∷ as') = counted (type_in a.kind) ∷ types_in as'

abbrev pub operands : IntType → List Piece → List Expression
operands t ps = map (operand t) ps

abbrev pub dimension : List Piece → Expression
dimension [] = literal (pos 0) types.Uint
dimension (a ∷ as') = operand types.Uint a

abbrev pub known_made : Place → List Place → List Piece → Intrinsic → Built
known_made place sites ps (intrinsics.Function f) =
    made (value (Apply (tree.Builtin f (builtin_type (types_in ps)))
    (expressions (operands (builtin_type (types_in ps)) ps)))) sites
known_made place sites ps (intrinsics.Query q) = made (value (Apply (tree.Ask q) (single (dimension ps)))) sites
known_made place sites ps intrinsics.Barrier = sited place sites barrier
known_made place sites ps intrinsics.Fence = made fence sites

abbrev pub call_made : Place → List Place → List Piece → Option Callee → Built
call_made place sites ps (Some (defined n g)) =
    sited place sites (λ site. value (tree.Call site n (roots_passed g.parameters ps) (all_passed g.parameters ps)))
call_made place sites ps (Some undefined) = made nothing sites
call_made place sites ps (Some (known i)) = known_made place sites ps i
call_made place sites ps None = made nothing sites

-- ---- leaves

abbrev pub number_what : Option (IntType × ℕ) → What
number_what None = nothing
number_what (Some l) = value (literal (pos l.1) l.0)

abbrev pub truth_what : Option ℤ → What
truth_what None = nothing
truth_what (Some v) = value (literal v types.Int)

abbrev pub only_made : List Place → List Piece → Built
only_made sites (a ∷ []) = made a.what sites
only_made sites ps = made nothing sites

abbrev pub flagged_made : Env → Place → List Place → List ℕ → Built
flagged_made env place sites name =
    if is_flag env name then made (value (literal (pos 0) types.Uint)) sites else name_made place sites
    (meaning_of env name)
