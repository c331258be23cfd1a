-- What statements stand for is valid: their types fit, their variables are declared before them, once, and exits
-- stand in loops and switches.
use Rattle.std.proofs.Common.{◌≡◌, ℕ, ◌+◌, ◌≤◌, List, [], ◌∷◌, length, Option, Bool, true, false, not, ◌||◌, refl, ap}
use Rattle.std.proofs.Common.{sym, ◌∙◌, subst, inl, inr, ◌⊎◌, arith}
use Rattle.std.proofs.lemmas.Bool.{false≢true}
use Rattle.wg_num.specs.declared.types.IntType.TheVariants as types
use Rattle.wg_num.specs.declared.types.Place.{Place}
use Rattle.cl_model.specs.Tree as tree
use Rattle.cl_model.specs.Tree.{Function, Program, Expression, Statement, Statements}
use Rattle.cl_model.specs.Valid.{Scope, HasValue, IsPlainCall, StatementFits, NamesIn, IsScoped, ExitsFit, declarations}
use Rattle.cl_tree.specs.declared.tree.Form.TheVariants as forms
use Rattle.cl_tree.specs.Syntax.{Syntax, node, none, more}
use Rattle.cl_meaning.specs.declared.kind.Kind.{Kind}
use Rattle.cl_meaning.specs.declared.kind.Kind.TheVariants as kinds
use Rattle.cl_meaning.specs.declared.kind.Role.{Role}
use Rattle.cl_meaning.specs.declared.kind.Role.TheVariants as roles
use Rattle.cl_meaning.specs.Environment.{Env, Variable, Array}
use Rattle.cl_meaning.specs.Kinds.{is_number}
use Rattle.cl_meaning.specs.Visible.{behind, opened, apart, in_loop}
use Rattle.cl_meaning.specs.Faults.{Asked, given}
use Rattle.cl_meaning.specs.Faults as faults_specs
use Rattle.cl_meaning.specs.Typed.{What, nothing, value, target, offset, values, barrier, fence, lines, statement}
use Rattle.cl_meaning.specs.Typed.{labelled, function, functions, Piece, Built}
use Rattle.cl_meaning.specs.Expressions.{read}
use Rattle.cl_meaning.specs.Statements.{alone, idle, body_of, lines_of, simple_statement, result_of}
use Rattle.cl_meaning.specs.Meant.{meant}
use Rattle.cl_check_sound.specs.Shape.{IsExpression}
use Rattle.cl_check_sound.specs.Sound.{SoundTree}
use Rattle.cl_check_sound.specs.Fits.{KindFits}
use Rattle.cl_check_sound.proofs.Expressing.{kind_meant}
use Rattle.cl_check_sound.proofs.Expressions.{fits_expression}
use Rattle.cl_check_sound.proofs.Valued.{Something, has_something, value_of, is_tested_number, NumberOf, number_of}
use Rattle.cl_check_sound.proofs.Grown.{Extends, is_deep, Grown, Kept, Within, within_later}
use Rattle.cl_check_sound.proofs.Growth.{within_opened, within_block, within_marked, simple_leaves}
use Rattle.cl_check_sound.proofs.Naming.{expression_scoped}
use Rattle.cl_check_sound.proofs.Facing.{Finals, At, at_later, at_opened, extends_length}
use Rattle.cl_check_sound.proofs.Lining.{scoped_line, one_below, AllRoots, Line}
use Rattle.cl_check_sound.proofs.Declarators.{declaration_line}
use Rattle.cl_check_sound.proofs.Induction.{IsFirst}
use Rattle.cl_check_sound.proofs.Parts.{simple0_built, simple_built, simple_sound}

-- ---- where a statement stands

-- what is visible fits, and the function has the result that is asked for
pub record Here (P : Program) (f : Function) (ms : List (List ℕ)) (scope : Scope) (env : Env) : Type 0 where
  pub within : Within env
  pub at : At P f ms scope env
  pub result : f.result ≡ result_of env.owner.result

pub here_later : (P : Program) (f : Function) (ms : List (List ℕ)) (scope : Scope) (env later : Env) →
    Kept env later → Here P f ms scope env → Here P f ms scope later
here_later P f ms scope env later k h = record {
  within = within_later env later h.within k.grown;
  at = at_later P f ms scope env later k.same (ap (λ z. z.functions) k.grown.frame)
      (extends_length env.variables later.variables k.grown.variables) h.at;
  result = h.result ∙ ap (λ z. result_of z.owner.result) (sym k.grown.frame);
}

pub here_marked : (P : Program) (f : Function) (ms : List (List ℕ)) (scope : Scope) (env i : Env) →
    i.scopes ≡ env.scopes → i.in_body ≡ env.in_body → i.functions ≡ env.functions → i.variables ≡ env.variables →
    i.owner ≡ env.owner → Here P f ms scope env → Here P f ms scope i
here_marked P f ms scope env i s b g v o h = record {
  within = within_marked env i s b h.within;
  at = at_later P f ms scope env i s g (subst (λ z. length env.variables ≤ length z) (sym v) (omega arith)) h.at;
  result = h.result ∙ ap (λ z. result_of z.result) (sym o);
}

pub here_for : (P : Program) (f : Function) (ms : List (List ℕ)) (scope : Scope) (env : Env) → Here P f ms scope env →
    Here P f ms scope (opened (in_loop env))
here_for P f ms scope env h = record {
  within = within_opened env h.within;
  at = at_opened P f ms scope env (opened (in_loop env)) refl refl refl h.at;
  result = h.result;
}

pub here_block : (P : Program) (f : Function) (ms : List (List ℕ)) (scope : Scope) (env : Env) →
    Here P f ms scope env → Here P f ms scope (opened (apart env))
here_block P f ms scope env h =
    record {
      within = within_block env h.within;
      at = at_opened P f ms scope env (opened (apart env)) refl refl refl h.at;
      result = h.result;
    }

-- behind a line of a block
pub here_line : (P : Program) (f : Function) (ms : List (List ℕ)) (scope : Scope) (env later : Env)
    (ls : Statements) → Grown env later → (x : Line P f ms scope env ls later) → Here P f ms scope env →
    Here P f ms x.scope' later
here_line P f ms scope env later ls g x h = record {
  within = within_later env later h.within g;
  at = x.at;
  result = h.result ∙ ap (λ z. result_of z.owner.result) (sym g.frame);
}

-- ---- what is shown of a statement

pub record Stated (P : Program) (f : Function) (scope : Scope) (env : Env) (w : What) (later : Env) : Type 0 where
  pub types' : StatementFits P f (body_of w)
  pub scoped : IsScoped scope (body_of w)
  pub exits : (x y : Bool) → env.in_loop ≡ x → (env.in_loop || env.in_switch) ≡ y → ExitsFit x y (body_of w)
  pub declared : (n : ℕ) → declarations (body_of w) n + one_below n (length env.variables) ≡
      one_below n (length later.variables)
  pub roots : AllRoots P f env.variables → AllRoots P f later.variables
  pub one : lines_of w ≡ alone (body_of w)

-- ---- an expression alone

pub record Simple (P : Program) (f : Function) (scope : Scope) (s : Statement) : Type 0 where
  pub types' : StatementFits P f s
  pub scoped : IsScoped scope s
  pub exits : (x y : Bool) → ExitsFit x y s
  pub none' : (n : ℕ) → declarations s n ≡ 0

pub idle_simple : (P : Program) (f : Function) (scope : Scope) → Simple P f scope idle
idle_simple P f scope = record { types' = tt; scoped = tt; exits = λ x y. tt; none' = λ n. refl }

do_simple : (P : Program) (f : Function) (scope : Scope) (e : Expression) → HasValue P f e ⊎ IsPlainCall P f e →
    NamesIn scope e → Simple P f scope (tree.Do e)
do_simple P f scope e h n = record { types' = h; scoped = n; exits = λ x y. tt; none' = λ z. refl }

-- neither a barrier nor a fence
abbrev is_done : What → Bool
is_done (barrier site) = false
is_done fence = false
is_done w = true

done_fits : (P : Program) (f : Function) (k : Kind) (w : What) → KindFits P f k w → is_done w ≡ true →
    HasValue P f (read w) ⊎ IsPlainCall P f (read w)
done_fits P f (kinds.Number t p) w h d = inl (t, h.0)
done_fits P f (kinds.Pointer s e c r i p) w h d = inl (types.Long, h.0)
done_fits P f kinds.Nothing (value e) h d = inr h
done_fits P f kinds.Nothing (barrier site) h d = absurd (false≢true d)
done_fits P f kinds.Nothing fence h d = absurd (false≢true d)
done_fits P f kinds.Nothing w h d = absurd h

simple_by : (P : Program) (f : Function) (scope : Scope) (o : Option Kind) (k : Kind) (w : What) (ps : List Piece) →
    KindFits P f k w → NamesIn scope (read w) → Simple P f scope (simple_statement (record { kind = o; what = w } ∷ ps))
simple_by P f scope o k (barrier site) ps h n =
    record { types' = tt; scoped = tt; exits = λ x y. tt; none' = λ z. refl }
simple_by P f scope o k fence ps h n = idle_simple P f scope
simple_by P f scope o k nothing ps h n = do_simple P f scope (read nothing) (done_fits P f k nothing h refl) n
simple_by P f scope o k (value e) ps h n = do_simple P f scope (read (value e)) (done_fits P f k (value e) h refl) n
simple_by P f scope o k (target p) ps h n = do_simple P f scope (read (target p)) (done_fits P f k (target p) h refl) n
simple_by P f scope o k (offset p) ps h n = do_simple P f scope (read (offset p)) (done_fits P f k (offset p) h refl) n
simple_by P f scope o k (values es) ps h n =
    do_simple P f scope (read (values es)) (done_fits P f k (values es) h refl) n
simple_by P f scope o k (lines l) ps h n = do_simple P f scope (read (lines l)) (done_fits P f k (lines l) h refl) n
simple_by P f scope o k (statement s) ps h n =
    do_simple P f scope (read (statement s)) (done_fits P f k (statement s) h refl) n
simple_by P f scope o k (labelled ls d s) ps h n =
    do_simple P f scope (read (labelled ls d s)) (done_fits P f k (labelled ls d s) h refl) n
simple_by P f scope o k (function g) ps h n =
    do_simple P f scope (read (function g)) (done_fits P f k (function g) h refl) n
simple_by P f scope o k (functions gs) ps h n =
    do_simple P f scope (read (functions gs)) (done_fits P f k (functions gs) h refl) n

pub expression_simple : (P : Program) (f : Function) (asked : Asked) (scope : Scope) (env : Env) (sites : List Place)
    (e : Syntax) → IsExpression e → SoundTree asked env roles.Whole e → At P f asked.missing scope env →
    Simple P f scope (simple_statement ((meant env sites e).piece ∷ []))
expression_simple P f asked scope env sites e h s a =
    let x = fits_expression P f asked env roles.Whole sites e h s a.fits in
    simple_by P f scope (meant env sites e).piece.kind x.kind (meant env sites e).piece.what [] x.fits
    (expression_scoped scope env sites e h a.seen)

-- a statement that declares nothing and leaves everything as it was
pub simple_stated : (P : Program) (f : Function) (scope : Scope) (env later : Env) (w : What) (s : Statement) →
    later ≡ env → w ≡ statement s → Simple P f scope s → Stated P f scope env w later
simple_stated P f scope env later w s e h x =
    subst (λ z. Stated P f scope env w z) (sym e) (subst (λ z. Stated P f scope env z env) (sym h) (record {
      types' = x.types';
      scoped = x.scoped;
      exits = λ u v d g. x.exits u v;
      declared = λ n. (let z = x.none' n in omega arith);
      roots = λ r. r;
      one = refl;
    }))

-- as a line
pub simple_line : (P : Program) (f : Function) (ms : List (List ℕ)) (scope : Scope) (env later : Env) (w : What)
    (s : Statement) → later ≡ env → w ≡ statement s → Simple P f scope s → At P f ms scope env →
    Line P f ms scope env (lines_of w) later
simple_line P f ms scope env later w s e h x a =
    subst (λ z. Line P f ms scope env (lines_of w) z) (sym e) (subst (λ z. Line P f ms scope env (lines_of z) env)
    (sym h) (record {
      scope' = scope;
      at = a;
      types' = (x.types', tt);
      scoped = λ rest k. scoped_line scope s rest x.scoped k;
      exits = λ u v. (x.exits u v, tt);
      declared = λ n. (let z = x.none' n in omega arith);
      roots = λ r. r;
    }))

pub what_is : {a b : Built} → a ≡ b → a.what ≡ b.what
what_is e = ap (λ (z : Built). z.what) e

-- the first part of a `for`
pub first_line : (P : Program) (f : Function) (asked : Asked) (vars : List Variable) (arrs : List Array)
    (scope : Scope) (env : Env) (sites : List Place) (role : Role) (t : Syntax) → IsFirst t →
    SoundTree asked env role t → is_deep env.scopes ≡ true → At P f asked.missing scope env → Finals f vars arrs →
    Extends (behind env t).variables vars → Extends (behind env t).arrays arrs →
    Line P f asked.missing scope env (lines_of (meant env sites t).piece.what) (behind env t)
first_line P f asked vars arrs scope env sites role t (inl h) s d a n ev ea =
    declaration_line P f asked vars arrs scope env sites role t h s d a n ev ea
first_line P f asked vars arrs scope env sites role (node forms.SimpleNode w f' l none) (inr h) s d a n ev ea =
    simple_line P f asked.missing scope env (behind env (node forms.SimpleNode w f' l none)) _ _
    (simple_leaves env w f' l none tt) (what_is (simple0_built env sites w f' l)) (idle_simple P f scope) a
first_line P f asked vars arrs scope env sites role (node forms.SimpleNode w f' l (more e none)) (inr h) s d a n ev ea =
    simple_line P f asked.missing scope env (behind env (node forms.SimpleNode w f' l (more e none))) _ _
    (simple_leaves env w f' l (more e none) h) (what_is (simple_built env sites w f' l e))
    (expression_simple P f asked scope env sites e h (simple_sound asked env role w f' l e s) a) a
first_line P f asked vars arrs scope env sites role t (inr h) s d a n ev ea = absurd h

-- ---- tests

-- a number that is tested, with its variables in scope
pub record Tested (P : Program) (f : Function) (scope : Scope) (p : Piece) : Type 0 where
  pub number : NumberOf P f p
  pub names : NamesIn scope (read p.what)

pub tested : (P : Program) (f : Function) (asked : Asked) (scope : Scope) (env : Env) (sites : List Place)
    (t : Syntax) → IsExpression t → SoundTree asked env roles.Tested t → At P f asked.missing scope env →
    Tested P f scope (meant env sites t).piece
tested P f asked scope env sites t h s a = record {
  number = number_of P f (meant env sites t).piece (fits_expression P f asked env roles.Tested sites t h s a.fits)
      (subst (λ z. given z (λ k. not (is_number k)) ≡ false) (sym (kind_meant env sites t))
      (is_tested_number asked env roles.Tested t refl s));
  names = expression_scoped scope env sites t h a.seen;
}

-- a value
pub record Valued (P : Program) (f : Function) (scope : Scope) (p : Piece) : Type 0 where
  pub has : HasValue P f (read p.what)
  pub names : NamesIn scope (read p.what)

pub valued : (P : Program) (f : Function) (asked : Asked) (scope : Scope) (env : Env) (sites : List Place)
    (role : Role) (t : Syntax) → IsExpression t → SoundTree asked env role t → faults_specs.is_whole role ≡ false →
    At P f asked.missing scope env → Valued P f scope (meant env sites t).piece
valued P f asked scope env sites role t h s r a = record {
  has = value_of P f (meant env sites t).piece (fits_expression P f asked env role sites t h s a.fits)
      (subst Something (sym (kind_meant env sites t)) (has_something asked env role t h s r));
  names = expression_scoped scope env sites t h a.seen;
}
