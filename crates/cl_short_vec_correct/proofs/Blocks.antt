-- Inside a block: what is visible at its first line, and where its lines stand.
use Rattle.std.proofs.Common.{◌≡◌, ℕ, ◌≤◌, List, [], ◌∷◌, ◌++◌, length, None, true, false}
use Rattle.std.proofs.Common.{refl, ap, sym, ◌∙◌, subst, arith}
use Rattle.std.proofs.lemmas.Bool.{false≢true}
use Rattle.std.specs.Prelude.{codes}
use Rattle.wg_num.specs.declared.types.Place.{Place as Position}
use Rattle.cl_model.specs.Tree as tree
use Rattle.cl_model.specs.Tree.{Program, Function, empty, also}
use Rattle.cl_tree.specs.declared.tree.Form.TheVariants as forms
use Rattle.cl_tree.specs.Syntax.{node, Forest, none, more, joined}
use Rattle.cl_meaning.specs.declared.kind.Role.{Role}
use Rattle.cl_meaning.specs.Environment.{Env, Scope, Variable, Array, empty_scope, meaning_in}
use Rattle.cl_meaning.specs.Visible.{Before, behind, behind_parts, opened, apart, left, restored}
use Rattle.cl_meaning.specs.Faults.{Asked}
use Rattle.cl_meaning.specs.Statements.{all_lines, lines_of as lines_in}
use Rattle.cl_meaning.specs.Meant.{meant, parts_meant}
use Rattle.cl_check_sound.specs.Shape.{AreLines}
use Rattle.cl_check_sound.specs.Sound.{SoundTree, SoundParts}
use Rattle.cl_check_sound.proofs.Grown.{Extends, Within, is_deep, deep_opened}
use Rattle.cl_check_sound.proofs.Facing.{Finals, At, at_opened, found_opened}
use Rattle.cl_check_sound.proofs.Parts.{block_behind, block_sound, block_built, line_behind, line_meant}
use Rattle.cl_short_vec.specs.declared.nodes.Span.{Span}
use Rattle.cl_short_vec.specs.Nodes.{at}
use Rattle.cl_short_vec_correct.specs.Doing.{nothing_got}
use Rattle.cl_short_vec_correct.proofs.Running.{Running}
use Rattle.cl_short_vec_correct.proofs.LeafRuns.{Place}

-- the first line of a block is as the others
pub front_behind : (env : Env) (ps : Forest) →
    behind_parts env forms.BlockNode true ps ≡ behind_parts env forms.BlockNode false ps
unfolding behind_parts
front_behind env none = refl
front_behind env (more p ps) = line_behind env true p ps ∙ sym (line_behind env false p ps)

pub front_meant : (env : Env) (sites : List Position) (ps : Forest) →
    parts_meant env forms.BlockNode true sites ps ≡ parts_meant env forms.BlockNode false sites ps
unfolding parts_meant
front_meant env sites none = refl
front_meant env sites (more p ps) = line_meant env true sites p ps ∙ sym (line_meant env false sites p ps)

pub two_scopes : (ss : List Scope) → is_deep ss ≡ true → 2 ≤ length ss
two_scopes [] h = absurd (false≢true h)
two_scopes (s ∷ []) h = absurd (false≢true h)
two_scopes (s ∷ (r ∷ rs)) h = omega arith

-- nothing is done yet where the same is visible as at the statement
pub starts : (start : Env) → is_deep start.scopes ≡ true → Running start start [] nothing_got []
starts start d = record {
  like = record { places = refl; functions = refl; flags = refl };
  inner = two_scopes start.scopes d;
  names = λ q h. refl;
  more = omega arith;
  own = tt;
  held = tt;
}

-- and inside a block
pub starts_inside : (start : Env) → is_deep start.scopes ≡ true → Running start (opened (apart start)) [] nothing_got []
starts_inside start d = record {
  like = record { places = refl; functions = refl; flags = refl };
  inner = two_scopes (start.scopes ++ empty_scope ∷ []) (deep_opened start.scopes empty_scope d);
  names = λ q h. ap meaning_in (found_opened start.scopes q);
  more = omega arith;
  own = tt;
  held = tt;
}

-- a block leaves the function in which it stands
pub block_owner : (env : Env) (s : Span) (ls : Forest) →
    (behind env (at forms.BlockNode (codes "{ }") s ls)).owner ≡ env.owner
unfolding behind restored left
block_owner env s ls = refl

module _ (P : Program) (g : Function) (asked : Asked) (vars : List Variable) (arrs : List Array)
    (fin : Finals g vars arrs) where
  -- the lines of a block that is a statement
  pub block_place : (start : Env) (scope : _) (role : Role) (w : List ℕ) (f l : ℕ) (ls : Forest) →
      At P g asked.missing scope start → Within start → SoundTree asked start role (node forms.BlockNode w f l ls) →
      AreLines ls → Extends (behind start (node forms.BlockNode w f l ls)).variables vars →
      Extends (behind start (node forms.BlockNode w f l ls)).arrays arrs →
      Place P g asked vars arrs fin (opened (apart start)) ls
  block_place start scope role w f l ls a wi s h ev ea =
      let b = block_behind start w f l ls wi.in_block in
      let i = opened (apart start) in
      let fb = front_behind i ls in
      record {
        scope = scope;
        before = None;
        at = at_opened P g asked.missing scope start i refl refl refl a;
        within = record { deep = deep_opened start.scopes empty_scope wi.deep; in_block = wi.in_block };
        sound = block_sound asked start role w f l ls wi.in_block s;
        shaped = h;
        variables = subst (λ (z : Env). Extends z.variables vars) fb
            (subst (λ (z : Env). Extends z.variables vars) b ev);
        arrays = subst (λ (z : Env). Extends z.arrays arrs) fb (subst (λ (z : Env). Extends z.arrays arrs) b ea);
      }

-- the lines of a block as a statement
pub block_lines_meant : (start : Env) (sites : List Position) (w : List ℕ) (f l : ℕ) (ls : Forest) →
    start.in_body ≡ false →
    lines_in (meant start sites (node forms.BlockNode w f l ls)).piece.what ≡
    also (tree.Block (all_lines (parts_meant (opened (apart start)) forms.BlockNode false sites ls).pieces)) empty
block_lines_meant start sites w f l ls h =
    ap (λ z. lines_in z.what) (block_built start sites w f l ls h) ∙
    ap (λ z. also (tree.Block (all_lines z.pieces)) empty) (front_meant (opened (apart start)) sites ls)

-- lines in front of others are not at fault
pub sound_front : (xs : Forest) (asked : Asked) (env : Env) (b : Before) (ys : Forest) →
    SoundParts asked env forms.BlockNode b (joined xs ys) → SoundParts asked env forms.BlockNode b xs
sound_front none asked env b ys s = tt
sound_front (more p ps) asked env b ys s = (s.0, sound_front ps asked _ _ ys s.1)
