-- What is visible fits the typed program, and what an expression stands for has its type.
use Rattle.std.specs.Prelude.{◌≡◌, ◌≢◌, ℕ, ◌<◌, ◌*◌, ◌^◌, List, [], ◌∷◌, Some, false, slice_get}
use Rattle.wg_num.specs.declared.types.IntType.{IntType}
use Rattle.wg_num.specs.declared.types.IntType.TheVariants as types
use Rattle.cl_model.specs.declared.program.Space.{Space}
use Rattle.cl_model.specs.declared.program.Root.{Root}
use Rattle.cl_model.specs.declared.program.VarKind.{VarKind}
use Rattle.cl_model.specs.declared.program.VarKind.TheVariants as var_kinds
use Rattle.cl_model.specs.Tree.{Expression, Function, Program}
use Rattle.cl_model.specs.Calls.{function_at}
use Rattle.cl_model.specs.Valid.{RootIs, HasType, CanBeCalled, parameter_kinds, IsPlainCall}
use Rattle.cl_meaning.specs.declared.kind.Each.{Each}
use Rattle.cl_meaning.specs.declared.kind.Each.TheVariants as each
use Rattle.cl_meaning.specs.declared.kind.Reach.{Reach}
use Rattle.cl_meaning.specs.declared.kind.Reach.TheVariants as reach
use Rattle.cl_meaning.specs.declared.kind.Kind.{Kind}
use Rattle.cl_meaning.specs.declared.kind.Kind.TheVariants as kinds
use Rattle.cl_meaning.specs.declared.kind.Meaning.{Meaning}
use Rattle.cl_meaning.specs.declared.kind.Meaning.TheVariants as meanings
use Rattle.cl_meaning.specs.declared.kind.Parameter.{Parameter}
use Rattle.cl_meaning.specs.declared.kind.Parameter.TheVariants as parameters
use Rattle.cl_meaning.specs.declared.kind.Yield.TheVariants as yields
use Rattle.cl_meaning.specs.Environment.{Env, Signature, meaning_of}
use Rattle.cl_meaning.specs.Faults.{is_called}
use Rattle.cl_meaning.specs.Statements.{result_of}
use Rattle.cl_meaning.specs.Typed.{What, value, target, barrier, fence, variable, element, Piece}
use Rattle.cl_meaning.specs.Expressions.{read}

-- a parameter of the typed program is what the signature says
abbrev pub ParameterIs : Parameter → VarKind → Type 0
ParameterIs (parameters.Number t) (var_kinds.Scalar u) = t ≡ u
ParameterIs (parameters.Pointer s e c) (var_kinds.Pointer s' e' r) = (s ≡ s') × (e ≡ e')
ParameterIs p v = ⊥

abbrev pub ParametersAre : List Parameter → List VarKind → Type 0
ParametersAre [] [] = Unit {0}
ParametersAre (p ∷ ps) (v ∷ vs) = ParameterIs p v × ParametersAre ps vs
ParametersAre ps vs = ⊥

-- a function of that signature can be called
pub record CalledFits (program : Program) (n : ℕ) (g : Signature) : Type 0 where
  pub callable : CanBeCalled program n (result_of g.result)
  pub parameters : ParametersAre g.parameters (parameter_kinds (function_at program n))
  pub inside : g.result ≢ yields.Outside

-- a variable of the function holds this
abbrev pub Holds : Function → ℕ → VarKind → Type 0
Holds f x kind = slice_get f.variables x ≡ Some kind

-- the lengths of rows and planes are longs
abbrev pub EachFits : Each → Type 0
EachFits each.Element = Unit {0}
EachFits (each.Row n) = n < 2 ^ 63
EachFits (each.Plane m n) = (n < 2 ^ 63) × (m * n < 2 ^ 63)

-- What a name stands for is there in the program; a function without a definition is not called, where `missing` are
-- the names of those that are.
abbrev pub MeaningFits : Program → Function → List (List ℕ) → List Signature → List ℕ → Meaning → Type 0
MeaningFits program f missing gs q (meanings.Scalar t c x) = Holds f x (var_kinds.Scalar t)
MeaningFits program f missing gs q (meanings.Pointer s e c r fixed x) =
    Holds f x (var_kinds.Pointer s e r) × RootIs program f r s e
MeaningFits program f missing gs q (meanings.Object s e c r) = RootIs program f r s e
MeaningFits program f missing gs q (meanings.Array s e c r i) = RootIs program f r s e × EachFits i
MeaningFits program f missing gs q (meanings.Function n) =
    (g : Signature) → slice_get gs n ≡ Some g → CalledFits program n g
MeaningFits program f missing gs q meanings.Undefined = is_called missing q ≡ false
MeaningFits program f missing gs q meanings.Kernel = Unit {0}

-- all names that are visible
abbrev pub Fits : Program → Function → List (List ℕ) → Env → Type 0
Fits program f missing env =
    (q : List ℕ) (m : Meaning) → meaning_of env q ≡ Some m → MeaningFits program f missing env.functions q m

-- what a number reaches is what its piece is: a variable, or an element in a space
abbrev pub ReachFits : Program → Function → IntType → Reach → What → Type 0
ReachFits program f t reach.Value w = Unit {0}
ReachFits program f t (reach.Variable c) w = (x : ℕ) × (w ≡ target (variable x)) × Holds f x (var_kinds.Scalar t)
ReachFits program f t (reach.Object s c) w = (site : ℕ) × (r : Root) × (i : Expression) ×
    (w ≡ target (element site t r i)) × RootIs program f r s t × HasType program f i types.Long
ReachFits program f t (reach.Element s c r) w = (site : ℕ) × (i : Expression) × (w ≡ target (element site t r i)) ×
    RootIs program f r s t × HasType program f i types.Long

-- a pointer that is more than its value is a variable
abbrev pub PointerFits : Program → Function → Space → IntType → Root → Reach → What → Type 0
PointerFits program f s e r (reach.Variable c) w =
    (x : ℕ) × (w ≡ target (variable x)) × Holds f x (var_kinds.Pointer s e r)
PointerFits program f s e r p w = Unit {0}

-- what a call without a value is made into
abbrev pub NothingFits : Program → Function → What → Type 0
NothingFits program f (value e) = IsPlainCall program f e
NothingFits program f (barrier site) = Unit {0}
NothingFits program f fence = Unit {0}
NothingFits program f w = ⊥

-- the piece of an expression fits its kind
abbrev pub KindFits : Program → Function → Kind → What → Type 0
KindFits program f (kinds.Number t p) w = HasType program f (read w) t × ReachFits program f t p w
KindFits program f (kinds.Pointer s e c r i p) w =
    HasType program f (read w) types.Long × RootIs program f r s e × PointerFits program f s e r p w × EachFits i
KindFits program f kinds.Nothing w = NothingFits program f w

-- the piece has a kind, and fits it
pub record PieceFits (program : Program) (f : Function) (p : Piece) : Type 0 where
  pub kind : Kind
  pub known : p.kind ≡ Some kind
  pub fits : KindFits program f kind p.what
