-- Where parts of statements stand: what is in hand there, from what is in hand where the statement stands.
use Rattle.std.proofs.Common.{◌≡◌, List, refl, ap, sym, ◌∙◌, subst, Option}
use Rattle.cl_model.specs.Calls.{function_at}
use Rattle.cl_model.specs.Tree.{Function, Program, Statements}
use Rattle.cl_meaning.specs.Environment.{Env, Variable, Array, Labels}
use Rattle.cl_meaning.specs.Visible.{opened, apart, in_loop, in_switch}
use Rattle.cl_meaning.specs.Faults.{Asked}
use Rattle.cl_check_sound.proofs.Grown.{extends_then, Grown, Kept}
use Rattle.cl_check_sound.proofs.Lining.{Line}
use Rattle.cl_check_sound.proofs.Stating.{here_later, here_marked, here_for, here_block, here_line}
use Rattle.cl_short_vec.specs.Kinds.{Names}
use Rattle.cl_short_vec.proofs.Small.{SmallNames}
use Rattle.cl_short_vec_correct.proofs.Says.{Says, OwnNames, says_same, says_opened}
use Rattle.cl_short_vec_correct.proofs.Whole.{WholeNames}
use Rattle.cl_short_vec_correct.proofs.Reaches.{AreNamed}
use Rattle.cl_short_vec_correct.proofs.Seen.{Intrinsics}
use Rattle.cl_short_vec_correct.proofs.KnownNames.{known_same, known_opened}
use Rattle.cl_short_vec_correct.proofs.Stands.{Stands, Ends}

module _ (P : Program) (f : Function) (asked : Asked) (vars : List Variable) (arrs : List Array) where
  abbrev There : Names → Env → Type 0
  There = Stands P f asked vars arrs

  abbrev Ending : Env → Type 0
  Ending = Ends P f asked vars arrs

  pub ends_before : (env later : Env) → Grown env later → Ending later → Ending env
  ends_before env later g e = (
    extends_then env.variables later.variables vars g.variables e.0,
    extends_then env.arrays later.arrays arrs g.arrays e.1,
  )

  pub stands_names : (names after : Names) (env : Env) → after ≡ names → There names env → There after env
  stands_names names after env e s = subst (λ z. There z env) (sym e) s

  -- where some marks are set
  pub stands_marked : (names : Names) (env i : Env) → i.scopes ≡ env.scopes → i.in_body ≡ env.in_body →
      i.functions ≡ env.functions → i.variables ≡ env.variables → i.owner ≡ env.owner → i.flags ≡ env.flags →
      There names env → There names i
  stands_marked names env i s b g v o fl t = record {
    scope = t.scope;
    here = here_marked P f asked.missing t.scope env i s b g v o t.here;
    says = says_same names env i s t.says;
    own = t.own;
    small = t.small;
    whole = t.whole;
    named = t.named;
    known = known_same env i g s t.known;
    flags = fl ∙ t.flags;
    owned = ap (λ z. (function_at P z.number).variables) o ∙ t.owned;
  }

  pub stands_apart : (names : Names) (env : Env) → There names env → There names (apart env)
  stands_apart names env t = stands_marked names env (apart env) refl refl refl refl refl refl t

  pub stands_loop : (names : Names) (env : Env) → There names env → There names (in_loop env)
  stands_loop names env t = stands_marked names env (in_loop env) refl refl refl refl refl refl t

  pub stands_switch : (names : Names) (env : Env) → There names env → There names (in_switch env)
  stands_switch names env t = stands_marked names env (in_switch env) refl refl refl refl refl refl t

  pub stands_labels : (names : Names) (env : Env) (ls : Option Labels) → There names env →
      There names (record env { labels = ls })
  stands_labels names env ls t =
      stands_marked names env (record env { labels = ls }) refl refl refl refl refl refl t

  -- in a new scope
  pub stands_for : (names : Names) (env : Env) → There names env → There names (opened (in_loop env))
  stands_for names env t = record {
    scope = t.scope;
    here = here_for P f asked.missing t.scope env t.here;
    says = says_opened names env (opened (in_loop env)) refl t.says;
    own = t.own;
    small = t.small;
    whole = t.whole;
    named = t.named;
    known = known_opened env (opened (in_loop env)) refl refl t.known;
    flags = t.flags;
    owned = t.owned;
  }

  pub stands_block : (names : Names) (env : Env) → There names env → There names (opened (apart env))
  stands_block names env t = record {
    scope = t.scope;
    here = here_block P f asked.missing t.scope env t.here;
    says = says_opened names env (opened (apart env)) refl t.says;
    own = t.own;
    small = t.small;
    whole = t.whole;
    named = t.named;
    known = known_opened env (opened (apart env)) refl refl t.known;
    flags = t.flags;
    owned = t.owned;
  }

  -- behind a statement
  pub stands_later : (names : Names) (env later : Env) → Kept env later → There names env → There names later
  stands_later names env later k t = record {
    scope = t.scope;
    here = here_later P f asked.missing t.scope env later k t.here;
    says = says_same names env later k.same t.says;
    own = t.own;
    small = t.small;
    whole = t.whole;
    named = t.named;
    known = known_same env later (ap (λ z. z.functions) k.grown.frame) k.same t.known;
    flags = ap (λ z. z.flags) k.grown.frame ∙ t.flags;
    owned = ap (λ z. (function_at P z.owner.number).variables) k.grown.frame ∙ t.owned;
  }

  -- behind a line that declares
  pub stands_line : (names after : Names) (env later : Env) (ls : Statements) → Grown env later →
      (t : There names env) → Line P f asked.missing t.scope env ls later → Says after later → OwnNames after →
      SmallNames after → WholeNames after → AreNamed after → Intrinsics later → There after later
  stands_line names after env later ls g t x s o m wh nm kn = record {
    scope = x.scope';
    here = here_line P f asked.missing t.scope env later ls g x t.here;
    says = s;
    own = o;
    small = m;
    whole = wh;
    named = nm;
    known = kn;
    flags = ap (λ z. z.flags) g.frame ∙ t.flags;
    owned = ap (λ z. (function_at P z.owner.number).variables) g.frame ∙ t.owned;
  }
