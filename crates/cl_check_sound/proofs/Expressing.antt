-- Each expression in which no node is at fault has a kind, and what it stands for fits the kind.
use Rattle.std.proofs.Common.{◌≡◌, ℕ, List, ◌∷◌, map, Option, true, false, refl, ap, sym, ◌∙◌}
use Rattle.wg_num.specs.declared.types.Place.{Place}
use Rattle.cl_tree.specs.declared.tree.Form.{Form}
use Rattle.cl_tree.specs.Syntax.{Syntax, node, Forest, none, more}
use Rattle.cl_meaning.specs.declared.fault.Fault.{Fault}
use Rattle.cl_meaning.specs.declared.kind.Kind.{Kind}
use Rattle.cl_meaning.specs.declared.kind.Role.{Role}
use Rattle.cl_meaning.specs.Environment.{Env}
use Rattle.cl_meaning.specs.Kinds.{kind_step}
use Rattle.cl_meaning.specs.Visible.{inside, behind_parts, kind_of, kinds_of}
use Rattle.cl_meaning.specs.Faults.{Asked, Sound, Looked, at_fault}
use Rattle.cl_meaning.specs.Typed.{Piece}
use Rattle.cl_meaning.specs.Meant.{MadeParts, meant, parts_meant, make, make_from, piece_made}
use Rattle.cl_check_sound.specs.Shape.{is_expression, AreOperands}
use Rattle.cl_check_sound.proofs.Neutral.{neutral_parts}
use Rattle.cl_check_sound.proofs.Plain.{kinds_here, kinds_plain, parts_here, parts_plain, visible_same}

abbrev pub kinds_in : List Piece → List (Option Kind)
kinds_in ps = map (λ p. p.kind) ps

-- a node made from its parts, and looked at
abbrev pub node_piece : Env → Env → Form → List ℕ → ℕ → Forest → MadeParts → Piece
node_piece env inner form w f parts ms = record {
  kind = kind_step env form w parts (kinds_in ms.pieces);
  what = (make env inner form w f parts ms.sites ms.pieces).what;
}

abbrev pub node_looked : Env → Role → Form → List ℕ → ℕ → Forest → List Piece → Looked
node_looked env role form w f parts ps =
    record { env = env; role = role; form = form; word = w; first = f; parts = parts; kinds' = kinds_in ps }

pub kind_meant : (env : Env) (sites : List Place) (t : Syntax) → (meant env sites t).piece.kind ≡ kind_of env t
unfolding kind_of meant
kind_meant env sites (node form w f l parts) = refl

pub kinds_here_are : (env : Env) (sites : List Place) (parts : Forest) →
    kinds_here env parts ≡ kinds_in (parts_here env sites parts).pieces
kinds_here_are env sites none = refl
kinds_here_are env sites (more p ps) =
    ap (λ k. k ∷ kinds_here env ps) (sym (kind_meant env sites p)) ∙
    ap (λ ks. (meant env sites p).piece.kind ∷ ks) (kinds_here_are env (meant env sites p).sites ps)

pub kinds_are : (env : Env) (sites : List Place) (form : Form) (w : List ℕ) (parts : Forest) →
    is_expression form ≡ true → AreOperands parts →
    kinds_of (inside env form w) form true parts ≡ kinds_in (parts_here (inside env form w) sites parts).pieces
kinds_are env sites form w parts e h =
    kinds_plain form e (inside env form w) true parts h ∙ kinds_here_are (inside env form w) sites parts

pub piece_is : (env : Env) (sites : List Place) (form : Form) (w : List ℕ) (f l : ℕ) (parts : Forest) →
    is_expression form ≡ true → AreOperands parts →
    (meant env sites (node form w f l parts)).piece ≡ node_piece env (inside env form w) form w f parts
    (parts_here (inside env form w) sites parts)
unfolding meant kind_of
piece_is env sites form w f l parts e h =
    ap (λ z. (piece_made (kind_step z form w parts (kinds_of i form true parts))
    (make_from z (behind_parts i form true parts) form w f parts
    (parts_meant i form true sites parts))).piece) (visible_same env form w f l parts e h)
    ∙
    (ap (λ z. (piece_made (kind_step env form w parts (kinds_of i form true parts))
    (make_from env z form w f parts (parts_meant i form true sites parts))).piece)
    (neutral_parts i form e true parts h)
    ∙
    (ap (λ z. (piece_made (kind_step env form w parts (kinds_of i form true parts))
    (make_from env i form w f parts z)).piece) (parts_plain form e i true sites parts h)
    ∙
    ap (λ z. (piece_made (kind_step env form w parts z)
    (make_from env i form w f parts (parts_here i sites parts))).piece) (kinds_are env sites form w parts e h)))
  where
    i : Env
    i = inside env form w

pub sound_is : (asked : Asked) (env : Env) (sites : List Place) (role : Role) (form : Form) (w : List ℕ) (f l : ℕ)
    (parts : Forest) → is_expression form ≡ true → AreOperands parts →
    Sound asked (record { visible = env; role = role; tree = node form w f l parts }) → (k : Fault) →
    at_fault asked (node_looked env role form w f parts (parts_here (inside env form w) sites parts).pieces) k ≡
    false
sound_is asked env sites role form w f l parts e h s k =
    ap (λ z. at_fault asked z k) (sym (ap (λ z. record {
      env = z;
      role = role;
      form = form;
      word = w;
      first = f;
      parts = parts;
      kinds' = kinds_of (inside env form w) form true parts;
    })
    (visible_same env form w f l parts e h)
    ∙ ap (λ z. record { env = env; role = role; form = form; word = w; first = f; parts = parts; kinds' = z })
    (kinds_are env sites form w parts e h))) ∙ s k
