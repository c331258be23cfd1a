-- What a line of a block does, and what is visible behind it.
use Rattle.std.proofs.Common.{◌≡◌, ℕ, suc, ◌+◌, nat_eq, nat_lt, List, length, Bool, true, false, if◌then◌else◌, refl}
use Rattle.std.proofs.Common.{ap, sym, subst, arith}
use Rattle.std.proofs.lemmas.Bool.Decides.{nat_tests}
use Rattle.cl_model.specs.declared.program.VarKind.{VarKind}
use Rattle.cl_model.specs.declared.program.VarKind.TheVariants as var_kinds
use Rattle.cl_model.specs.Lists.{Each}
use Rattle.cl_model.specs.Tree.{Function, Program, Statement, Statements, empty, also, Do, Declare, Fill, Block, If}
use Rattle.cl_model.specs.Tree.{Loop, Switch, Break, Continue, Return, Barrier}
use Rattle.cl_model.specs.Valid.{Scope, RootIs, AllFit, IsScoped, IsScopedList, AllExitsFit, all_declarations}
use Rattle.cl_meaning.specs.Environment.{Env, Variable}
use Rattle.cl_meaning.specs.Statements.{followed}
use Rattle.cl_check_sound.proofs.Facing.{At}

-- ---- lists of statements

pub followed_again : (a b c : Statements) → followed (followed a b) c ≡ followed a (followed b c)
followed_again empty b c = refl
followed_again (also s a) b c = ap (λ z. also s z) (followed_again a b c)

pub all_fit_followed : (P : Program) (f : Function) (a b : Statements) → AllFit P f a → AllFit P f b →
    AllFit P f (followed a b)
all_fit_followed P f empty b h k = k
all_fit_followed P f (also s a) b h k = (h.0, all_fit_followed P f a b h.1 k)

pub exits_followed : (x y : Bool) (a b : Statements) → AllExitsFit x y a → AllExitsFit x y b →
    AllExitsFit x y (followed a b)
exits_followed x y empty b h k = k
exits_followed x y (also s a) b h k = (h.0, exits_followed x y a b h.1 k)

pub declarations_followed : (a b : Statements) (x : ℕ) → all_declarations (followed a b) x ≡ all_declarations a x +
    all_declarations b x
declarations_followed empty b x = omega arith
declarations_followed (also s a) b x = let e = declarations_followed a b x in omega arith

pub scoped_line : (scope : Scope) (s : Statement) (rest : Statements) → IsScoped scope s → IsScopedList scope rest →
    IsScopedList scope (also s rest)
scoped_line scope (Do e) rest h k = (h, k)
scoped_line scope (Declare x v) rest h k = absurd h
scoped_line scope (Fill site a vs) rest h k = (h, k)
scoped_line scope (Block l) rest h k = (h, k)
scoped_line scope (If site c a b) rest h k = (h, k)
scoped_line scope (Loop site z c e b) rest h k = (h, k)
scoped_line scope (Switch site v as') rest h k = (h, k)
scoped_line scope (Break site) rest h k = (h, k)
scoped_line scope (Continue site) rest h k = (h, k)
scoped_line scope (Return site v) rest h k = (h, k)
scoped_line scope (Barrier site) rest h k = (h, k)

-- ---- what a line does

-- one for a number below another
abbrev pub one_below : ℕ → ℕ → ℕ
one_below x n = if nat_lt x n then 1 else 0

pub one_more : (x n : ℕ) → (if nat_eq n x then 1 else 0) + one_below x n ≡ one_below x (suc n)
one_more x n = by (nat_eq n x) (nat_lt x n) (nat_lt x (suc n)) refl refl refl
  where
    by : (a b c : Bool) → nat_eq n x ≡ a → nat_lt x n ≡ b → nat_lt x (suc n) ≡ c →
        (if a then 1 else 0) + (if b then 1 else 0) ≡ (if c then 1 else 0)
    by true true true e f g = absurd (grind (arith, nat_tests))
    by true true false e f g = absurd (grind (arith, nat_tests))
    by true false true e f g = refl
    by true false false e f g = absurd (grind (arith, nat_tests))
    by false true true e f g = refl
    by false true false e f g = absurd (grind (arith, nat_tests))
    by false false true e f g = absurd (grind (arith, nat_tests))
    by false false false e f g = refl

-- a pointer variable leads to its object
abbrev pub RootFits : Program → Function → VarKind → Type 0
RootFits P f (var_kinds.Scalar t) = Unit {0}
RootFits P f (var_kinds.Pointer s e r) = RootIs P f r s e

abbrev pub AllRoots : Program → Function → List Variable → Type 0
AllRoots P f vs = Each (λ (v : Variable). RootFits P f v.kind) vs

pub record Line (P : Program) (f : Function) (ms : List (List ℕ)) (scope : Scope) (env : Env) (ls : Statements)
    (later : Env) : Type 0 where
  pub scope' : Scope
  pub at : At P f ms scope' later
  pub types' : AllFit P f ls
  pub scoped : (rest : Statements) → IsScopedList scope' rest → IsScopedList scope (followed ls rest)
  pub exits : (x y : Bool) → AllExitsFit x y ls
  pub declared : (x : ℕ) → all_declarations ls x + one_below x (length env.variables) ≡
      one_below x (length later.variables)
  pub roots : AllRoots P f env.variables → AllRoots P f later.variables

pub no_line : (P : Program) (f : Function) (ms : List (List ℕ)) (scope : Scope) (env : Env) → At P f ms scope env →
    Line P f ms scope env empty env
no_line P f ms scope env a = record {
  scope' = scope;
  at = a;
  types' = tt;
  scoped = λ rest h. h;
  exits = λ x y. tt;
  declared = λ x. omega arith;
  roots = λ h. h;
}

pub line_then : (P : Program) (f : Function) (ms : List (List ℕ)) (scope : Scope) (env mid later : Env)
    (a b : Statements) (x : Line P f ms scope env a mid) → Line P f ms x.scope' mid b later →
    Line P f ms scope env (followed a b) later
line_then P f ms scope env mid later a b x y = record {
  scope' = y.scope';
  at = y.at;
  types' = all_fit_followed P f a b x.types' y.types';
  scoped = λ rest h. subst (λ z. IsScopedList scope z) (sym (followed_again a b rest))
      (x.scoped (followed b rest) (y.scoped rest h));
  exits = λ u v. exits_followed u v a b (x.exits u v) (y.exits u v);
  declared = λ n. (let e = x.declared n in let g = y.declared n in let i = declarations_followed a b n in omega arith);
  roots = λ h. y.roots (x.roots h);
}
