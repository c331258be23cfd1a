-- Scopes and ways out, a statement at a time.
use Rattle.std.proofs.Common.{◌≡◌, ℕ, zero, suc, ◌+◌, ◌<◌, List, [], ◌∷◌, length, Option, Some, None, refl, ap, ◌∙◌}
use Rattle.std.proofs.Common.{subst, arith, true, false, inl, inr, if◌then◌else◌}
use Rattle.std.proofs.Common.{Bool as Test}
use Rattle.std.specs.Prelude.{nat_eq}
use Rattle.std.proofs.lemmas.Option.{none-some}
use Rattle.wg_num.specs.declared.types.IntType.{IntType}
use Rattle.cl_model.specs.declared.program.Root.{Root}
use Rattle.cl_model.specs.declared.program.VarKind.{VarKind}
use Rattle.cl_model.specs.declared.program.VarKind.TheVariants.{Scalar, Pointer}
use Rattle.cl_model.specs.Tree.{Expression, Expressions, none, more, Statement, Do, Declare, Fill, Block, If, Loop}
use Rattle.cl_model.specs.Tree.{Switch, Break, Continue, Return, Barrier, Statements, empty, also, Arms, no_arm, arm}
use Rattle.cl_model.specs.Tree.{Function, Program}
use Rattle.cl_model.specs.Valid.{Scope, Has, HasType, HaveTypes, AllHaveType, ReturnFits, ArgumentsFit, NamesIn}
use Rattle.cl_model.specs.Valid.{NamesInOptional, NamesAmong, scope_after, IsScoped, IsScopedList, AreScoped}
use Rattle.cl_model.specs.Valid.{numbers_below}
use Rattle.kir_lower.specs.Made.{Instance}
use Rattle.kir_lower.specs.Ways.{first_of, way_out, way_out_of_all, way_out_of_arms, declares}
use Rattle.kir_lower_shape.proofs.Steps.{IsApart, IsFree}

-- what the first statement of a list names is in scope
abbrev pub FirstScoped : Scope → Statement → Type 0
FirstScoped scope (Declare x value) = NamesInOptional scope value
FirstScoped scope (Do e) = NamesIn scope e
FirstScoped scope (Fill site array values) = NamesAmong scope values
FirstScoped scope (Block list) = IsScoped scope (Block list)
FirstScoped scope (If site test chosen other) = IsScoped scope (If site test chosen other)
FirstScoped scope (Loop site test_first test step body) = IsScoped scope (Loop site test_first test step body)
FirstScoped scope (Switch site value arms) = IsScoped scope (Switch site value arms)
FirstScoped scope (Break site) = Unit {0}
FirstScoped scope (Continue site) = Unit {0}
FirstScoped scope (Return site value) = NamesInOptional scope value
FirstScoped scope (Barrier site) = Unit {0}

pub as_first : (scope : Scope) (s : Statement) → IsScoped scope s → FirstScoped scope s
as_first scope (Declare x value) h = absurd h
as_first scope (Do e) h = h
as_first scope (Fill site array values) h = h
as_first scope (Block list) h = h
as_first scope (If site test chosen other) h = h
as_first scope (Loop site test_first test step body) h = h
as_first scope (Switch site value arms) h = h
as_first scope (Break site) h = h
as_first scope (Continue site) h = h
as_first scope (Return site value) h = h
as_first scope (Barrier site) h = h

-- the first of a list, and those behind it
pub scoped_parts : (scope : Scope) (s : Statement) (rest : Statements) → IsScopedList scope (also s rest) →
    FirstScoped scope s × IsScopedList (scope_after scope s) rest
scoped_parts scope (Declare x value) rest h = (h.1, h.2)
scoped_parts scope (Do e) rest h = h
scoped_parts scope (Fill site array values) rest h = h
scoped_parts scope (Block list) rest h = h
scoped_parts scope (If site test chosen other) rest h = h
scoped_parts scope (Loop site test_first test step body) rest h = h
scoped_parts scope (Switch site value arms) rest h = h
scoped_parts scope (Break site) rest h = h
scoped_parts scope (Continue site) rest h = h
scoped_parts scope (Return site value) rest h = h
scoped_parts scope (Barrier site) rest h = h

-- no statement of a branch declares a variable, so it is a list
list_first : (scope : Scope) (s : Statement) (rest : Statements) → IsScoped scope s → IsScopedList scope rest →
    IsScopedList scope (also s rest)
list_first scope (Declare x value) rest h k = absurd h
list_first scope (Do e) rest h k = (h, k)
list_first scope (Fill site array values) rest h k = (h, k)
list_first scope (Block list) rest h k = (h, k)
list_first scope (If site test chosen other) rest h k = (h, k)
list_first scope (Loop site test_first test step body) rest h k = (h, k)
list_first scope (Switch site value arms) rest h k = (h, k)
list_first scope (Break site) rest h k = (h, k)
list_first scope (Continue site) rest h k = (h, k)
list_first scope (Return site value) rest h k = (h, k)
list_first scope (Barrier site) rest h k = (h, k)

pub as_list : (scope : Scope) (list : Statements) → AreScoped scope list → IsScopedList scope list
as_list scope empty h = tt
as_list scope (also s rest) h = list_first scope s rest h.0 (as_list scope rest h.1)

-- the statement sets the cell, since it declares its variable
abbrev pub sets : ℕ → Instance → Statement → Test
sets c here (Declare x value) = nat_eq c (here.base + x)
sets c here (Do e) = false
sets c here (Fill site array values) = false
sets c here (Block list) = false
sets c here (If site test chosen other) = false
sets c here (Loop site test_first test step body) = false
sets c here (Switch site value arms) = false
sets c here (Break site) = false
sets c here (Continue site) = false
sets c here (Return site value) = false
sets c here (Barrier site) = false

pub sets_nothing : (c : ℕ) (here : Instance) (s : Statement) → declares s ≡ false → sets c here s ≡ false
sets_nothing c here (Declare x value) e = absurd (let k = e in cc)
sets_nothing c here (Do e) h = refl
sets_nothing c here (Fill site array values) h = refl
sets_nothing c here (Block list) h = refl
sets_nothing c here (If site test chosen other) h = refl
sets_nothing c here (Loop site test_first test step body) h = refl
sets_nothing c here (Switch site value arms) h = refl
sets_nothing c here (Break site) h = refl
sets_nothing c here (Continue site) h = refl
sets_nothing c here (Return site value) h = refl
sets_nothing c here (Barrier site) h = refl

apart_one : (c : ℕ) (here : Instance) (scope : Scope) (x : ℕ) → IsApart c here scope →
    nat_eq c (here.base + x) ≡ false → IsApart c here (x ∷ scope)
apart_one c here scope x h e y (inl same) = subst (λ z. nat_eq c (here.base + z) ≡ false) same e
apart_one c here scope x h e y (inr has) = h y has

pub apart_after : (c : ℕ) (here : Instance) (scope : Scope) (s : Statement) → IsApart c here scope →
    sets c here s ≡ false → IsApart c here (scope_after scope s)
apart_after c here scope (Declare x value) h e = apart_one c here scope x h e
apart_after c here scope (Do e) h k = h
apart_after c here scope (Fill site array values) h k = h
apart_after c here scope (Block list) h k = h
apart_after c here scope (If site test chosen other) h k = h
apart_after c here scope (Loop site test_first test step body) h k = h
apart_after c here scope (Switch site value arms) h k = h
apart_after c here scope (Break site) h k = h
apart_after c here scope (Continue site) h k = h
apart_after c here scope (Return site value) h k = h
apart_after c here scope (Barrier site) h k = h

-- ---- ways out

pub free_first : (c exit : ℕ) (a b : Option ℕ) → IsFree c exit (first_of a b) → IsFree c exit a
free_first c exit None b h site e = absurd (none-some site e)
free_first c exit (Some s) b h site e = h site e

pub free_second : (c exit : ℕ) (a b : Option ℕ) → IsFree c exit (first_of a b) → IsFree c exit b
free_second c exit None b h = h
free_second c exit (Some s) b h = λ site e. h s refl

free_both : (c exit : ℕ) (a b : Option ℕ) → IsFree c exit a → IsFree c exit b → IsFree c exit (first_of a b)
free_both c exit None b h k = k
free_both c exit (Some s) b h k = h

free_if : (c exit : ℕ) (b b' : Test) (site : ℕ) → (b ≡ true → b' ≡ true) →
    IsFree c exit (if b' then Some site else None) → IsFree c exit (if b then Some site else None)
free_if c exit true b' site f h s e = h s (ap (λ z. if z then Some site else None) (f refl) ∙ e)
free_if c exit false b' site f h s e = absurd (none-some s e)

-- with fewer ways out
mutual
  pub fewer_ways : (c exit : ℕ) (b b' k k' : Test) → (b ≡ true → b' ≡ true) → (k ≡ true → k' ≡ true) →
      (s : Statement) → IsFree c exit (way_out b' k' s) → IsFree c exit (way_out b k s)
  fewer_ways c exit b b' k k' f g (Do e) h = h
  fewer_ways c exit b b' k k' f g (Declare x value) h = h
  fewer_ways c exit b b' k k' f g (Fill site array values) h = h
  fewer_ways c exit b b' k k' f g (Block list) h = fewer_of_all c exit b b' k k' f g list h
  fewer_ways c exit b b' k k' f g (If site test chosen other) h =
      free_both c exit _ _ (fewer_of_all c exit b b' k k' f g chosen (free_first c exit _ _ h))
      (fewer_of_all c exit b b' k k' f g other (free_second c exit (way_out_of_all b' k' chosen) _ h))
  fewer_ways c exit b b' k k' f g (Loop site test_first test step body) h = h
  fewer_ways c exit b b' k k' f g (Switch site value arms) h = fewer_of_arms c exit false false k k' (λ e. e) g arms h
  fewer_ways c exit b b' k k' f g (Break site) h = free_if c exit b b' site f h
  fewer_ways c exit b b' k k' f g (Continue site) h = free_if c exit k k' site g h
  fewer_ways c exit b b' k k' f g (Return site value) h = h
  fewer_ways c exit b b' k k' f g (Barrier site) h = h

  pub fewer_of_all : (c exit : ℕ) (b b' k k' : Test) → (b ≡ true → b' ≡ true) → (k ≡ true → k' ≡ true) →
      (list : Statements) → IsFree c exit (way_out_of_all b' k' list) → IsFree c exit (way_out_of_all b k list)
  fewer_of_all c exit b b' k k' f g empty h = h
  fewer_of_all c exit b b' k k' f g (also s rest) h =
      free_both c exit _ _ (fewer_ways c exit b b' k k' f g s (free_first c exit _ _ h))
      (fewer_of_all c exit b b' k k' f g rest (free_second c exit (way_out b' k' s) _ h))

  pub fewer_of_arms : (c exit : ℕ) (b b' k k' : Test) → (b ≡ true → b' ≡ true) → (k ≡ true → k' ≡ true) →
      (arms : Arms) → IsFree c exit (way_out_of_arms b' k' arms) → IsFree c exit (way_out_of_arms b k arms)
  fewer_of_arms c exit b b' k k' f g no_arm h = h
  fewer_of_arms c exit b b' k k' f g (arm labels other body rest) h =
      free_both c exit _ _ (fewer_of_all c exit b b' k k' f g body (free_first c exit _ _ h))
      (fewer_of_arms c exit b b' k k' f g rest (free_second c exit (way_out_of_all b' k' body) _ h))

-- ---- types

-- the values of an array have types
pub all_have : (program : Program) (f : Function) (list : Expressions) (t : IntType) → AllHaveType program f list t →
    (ts : List IntType) × HaveTypes program f list ts
all_have program f none t h = ([], tt)
all_have program f (more e rest) t h = let k = all_have program f rest t h.1 in (t ∷ k.0, (h.0, k.1))

-- the value of a return has one
pub return_type : (program : Program) (f : Function) (result : Option IntType) (e : Expression) →
    ReturnFits program f result (Some e) → (t : IntType) × HasType program f e t
return_type program f None e h = absurd h
return_type program f (Some t) e h = (t, h)

-- as many arguments as parameters
pub argument_count : (program : Program) (f : Function) (kinds : List VarKind) (roots : List (Option Root))
    (ts : List IntType) → ArgumentsFit program f kinds roots ts → length ts ≡ length kinds
argument_count program f [] [] [] h = refl
argument_count program f [] [] (t ∷ ts) h = absurd h
argument_count program f [] (r ∷ roots) [] h = absurd h
argument_count program f [] (r ∷ roots) (t ∷ ts) h = absurd h
argument_count program f (Scalar s ∷ kinds) [] [] h = absurd h
argument_count program f (Scalar s ∷ kinds) [] (t ∷ ts) h = absurd h
argument_count program f (Scalar s ∷ kinds) (None ∷ roots) [] h = absurd h
argument_count program f (Scalar s ∷ kinds) (None ∷ roots) (t ∷ ts) h =
    ap suc (argument_count program f kinds roots ts h.1)
argument_count program f (Scalar s ∷ kinds) (Some r ∷ roots) [] h = absurd h
argument_count program f (Scalar s ∷ kinds) (Some r ∷ roots) (t ∷ ts) h = absurd h
argument_count program f (Pointer at element own ∷ kinds) [] [] h = absurd h
argument_count program f (Pointer at element own ∷ kinds) [] (t ∷ ts) h = absurd h
argument_count program f (Pointer at element own ∷ kinds) (None ∷ roots) [] h = absurd h
argument_count program f (Pointer at element own ∷ kinds) (None ∷ roots) (t ∷ ts) h = absurd h
argument_count program f (Pointer at element own ∷ kinds) (Some r ∷ roots) [] h = absurd h
argument_count program f (Pointer at element own ∷ kinds) (Some r ∷ roots) (t ∷ ts) h =
    ap suc (argument_count program f kinds roots ts h.2)

-- the parameters are those with the first numbers
pub has_below : (n x : ℕ) → Has (numbers_below n) x → x < n
has_below zero x h = absurd h
has_below (suc n) x (inl e) = omega (arith, e)
has_below (suc n) x (inr h) = let k = has_below n x h in omega (arith, k)
