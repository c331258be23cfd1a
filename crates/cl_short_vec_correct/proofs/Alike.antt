-- What an expression stands for depends on what is visible by the names that it names alone.
use Rattle.std.proofs.Common.{◌≡◌, ℕ, pos, List, Option, Some, true, ◌&&◌, refl, ap, sym, ◌∙◌, inl, inr}
use Rattle.std.proofs.Common.{if◌then◌else◌, slice_get}
use Rattle.std.proofs.lemmas.Bool.{false≢true}
use Rattle.wg_num.specs.declared.types.Place.{Place}
use Rattle.wg_num.specs.declared.types.IntType.TheVariants as types
use Rattle.cl_tree.specs.declared.tree.Form.{Form}
use Rattle.cl_tree.specs.declared.tree.Form.TheVariants as forms
use Rattle.cl_tree.specs.Syntax.{Syntax, node, Forest, none, more}
use Rattle.cl_meaning.specs.Spelling.{name_in, prefix_in, postfix_in, flag_in}
use Rattle.cl_meaning.specs.declared.kind.Kind.{Kind}
use Rattle.cl_meaning.specs.declared.kind.Meaning.{Meaning}
use Rattle.cl_meaning.specs.Environment.{Env, meaning_of, place_of, or_start}
use Rattle.cl_meaning.specs.Kinds.{callee_of, callee_by, name_kind, kind_step, is_flag, is_some, on_one}
use Rattle.cl_meaning.specs.Kinds.{kind_of_meaning, number, all_known, on_both, call_kind}
use Rattle.cl_meaning.specs.Visible.{inside, behind_parts, kind_of, kinds_of, is_fence_callee}
use Rattle.cl_meaning.specs.Typed.{Piece, Made, value}
use Rattle.cl_meaning.specs.Expressions.{made, literal, name_made, flagged_made, call_made, choice_made, or_made}
use Rattle.cl_meaning.specs.Expressions.{and_made}
use Rattle.cl_meaning.specs.Expressions.{prefix_made, postfix_made}
use Rattle.cl_meaning.specs.Meant.{MadeParts, with_piece, meant, parts_meant, make, make_from, piece_made}
use Rattle.cl_check_sound.specs.Shape.{is_expression, IsType, OfExpressions, AreOperands}
use Rattle.cl_check_sound.proofs.Neutral.{neutral_parts}
use Rattle.cl_check_sound.proofs.Plain.{parts_here, parts_plain, visible_same}
use Rattle.cl_check_sound.proofs.Expressing.{kinds_in, kinds_are}

-- what is around a name, and the same in both
pub record Like (a b : Env) : Type 0 where
  pub places : a.places ≡ b.places
  pub functions : a.functions ≡ b.functions
  pub flags : a.flags ≡ b.flags

-- the name of a node stands for the same
abbrev pub SameName : Env → Env → Form → List ℕ → Type 0
SameName a b forms.VariableNode w = meaning_of a (name_in w) ≡ meaning_of b (name_in w)
SameName a b forms.CallNode w = meaning_of a (name_in w) ≡ meaning_of b (name_in w)
SameName a b form w = Unit {0}

-- and all names of a tree
abbrev mutual
  pub SameNames : Env → Env → Syntax → Type 0
  SameNames a b (node form w f l parts) = SameName a b form w × AllSame a b parts

  pub AllSame : Env → Env → Forest → Type 0
  AllSame a b none = Unit {0}
  AllSame a b (more p ps) = SameNames a b p × AllSame a b ps

-- ---- inside a node

inside_meaning : (form : Form) → is_expression form ≡ true → (env : Env) (w q : List ℕ) →
    meaning_of (inside env form w) q ≡ meaning_of env q
unfolding inside
inside_meaning forms.ExprNode h env w q = refl
inside_meaning forms.AssignNode h env w q = refl
inside_meaning forms.CondNode h env w q = refl
inside_meaning forms.OrNode h env w q = refl
inside_meaning forms.AndNode h env w q = refl
inside_meaning forms.BorNode h env w q = refl
inside_meaning forms.BxorNode h env w q = refl
inside_meaning forms.BandNode h env w q = refl
inside_meaning forms.EqualNode h env w q = refl
inside_meaning forms.OrderNode h env w q = refl
inside_meaning forms.ShiftNode h env w q = refl
inside_meaning forms.SumNode h env w q = refl
inside_meaning forms.TermNode h env w q = refl
inside_meaning forms.CastNode h env w q = refl
inside_meaning forms.UnaryNode h env w q = refl
inside_meaning forms.PostfixNode h env w q = refl
inside_meaning forms.TruthNode h env w q = refl
inside_meaning forms.VariableNode h env w q = refl
inside_meaning forms.CallNode h env w q = refl
inside_meaning forms.ParenNode h env w q = refl
inside_meaning forms.NumberNode h env w q = refl
inside_meaning _ h env w q = absurd (false≢true h)

-- the same function is called
same_callee : (a b : Env) (name : List ℕ) → Like a b → meaning_of a name ≡ meaning_of b name →
    callee_of a name ≡ callee_of b name
same_callee a b name l e = ap (callee_by a name) e ∙ by (meaning_of b name)
  where
    by : (m : Option Meaning) → callee_by a name m ≡ callee_by b name m
    by m = ap (λ z. callee_by (record a { functions = z }) name m) l.functions ∙ refl

like_inside : (form : Form) → is_expression form ≡ true → (a b : Env) (w : List ℕ) → Like a b → SameName a b form w →
    Like (inside a form w) (inside b form w)
unfolding inside
like_inside forms.ExprNode h a b w l s = l
like_inside forms.AssignNode h a b w l s = l
like_inside forms.CondNode h a b w l s = l
like_inside forms.OrNode h a b w l s = l
like_inside forms.AndNode h a b w l s = l
like_inside forms.BorNode h a b w l s = l
like_inside forms.BxorNode h a b w l s = l
like_inside forms.BandNode h a b w l s = l
like_inside forms.EqualNode h a b w l s = l
like_inside forms.OrderNode h a b w l s = l
like_inside forms.ShiftNode h a b w l s = l
like_inside forms.SumNode h a b w l s = l
like_inside forms.TermNode h a b w l s = l
like_inside forms.CastNode h a b w l s = l
like_inside forms.UnaryNode h a b w l s = l
like_inside forms.PostfixNode h a b w l s = l
like_inside forms.TruthNode h a b w l s = l
like_inside forms.VariableNode h a b w l s = l
like_inside forms.CallNode h a b w l s = record {
  places = l.places;
  functions = l.functions;
  flags = ap is_fence_callee (same_callee a b (name_in w) l s);
}
like_inside forms.ParenNode h a b w l s = l
like_inside forms.NumberNode h a b w l s = l
like_inside _ h a b w l s = absurd (false≢true h)

-- what the names stand for decides
name_there : (form : Form) (a b c d : Env) (w : List ℕ) → ((q : List ℕ) → meaning_of c q ≡ meaning_of a q) →
    ((q : List ℕ) → meaning_of d q ≡ meaning_of b q) → SameName a b form w → SameName c d form w
name_there forms.VariableNode a b c d w g h s = g (name_in w) ∙ s ∙ sym (h (name_in w))
name_there forms.CallNode a b c d w g h s = g (name_in w) ∙ s ∙ sym (h (name_in w))
name_there _ a b c d w g h s = tt

mutual
  names_there : (t : Syntax) (a b c d : Env) → ((q : List ℕ) → meaning_of c q ≡ meaning_of a q) →
      ((q : List ℕ) → meaning_of d q ≡ meaning_of b q) → SameNames a b t → SameNames c d t
  names_there (node form w f l parts) a b c d g h s =
      (name_there form a b c d w g h s.0, all_there parts a b c d g h s.1)

  all_there : (parts : Forest) (a b c d : Env) → ((q : List ℕ) → meaning_of c q ≡ meaning_of a q) →
      ((q : List ℕ) → meaning_of d q ≡ meaning_of b q) → AllSame a b parts → AllSame c d parts
  all_there none a b c d g h s = tt
  all_there (more p ps) a b c d g h s = (names_there p a b c d g h s.0, all_there ps a b c d g h s.1)

-- ---- a node

-- the same flag, kind and piece of a name
same_flag : (a b : Env) (name : List ℕ) → Like a b → is_flag a name ≡ is_flag b name
same_flag a b name l = ap (λ z. z && is_some (flag_in name)) l.flags

same_name_kind : (a b : Env) (name : List ℕ) → Like a b → meaning_of a name ≡ meaning_of b name →
    name_kind a name ≡ name_kind b name
same_name_kind a b name l e =
    ap (λ z. if z then Some (number types.Uint) else on_one (meaning_of a name) kind_of_meaning)
    (same_flag a b name l) ∙
    ap (λ z. if is_flag b name then Some (number types.Uint) else on_one z kind_of_meaning) e

same_kind : (form : Form) → is_expression form ≡ true → (a b : Env) (w : List ℕ) (parts : Forest)
    (ks : List (Option Kind)) → Like a b → SameName a b form w →
    kind_step a form w parts ks ≡ kind_step b form w parts ks
unfolding kind_step
same_kind forms.VariableNode h a b w parts ks l s = same_name_kind a b (name_in w) l s
same_kind forms.CallNode h a b w parts ks l s =
    ap (λ z. on_both z (all_known ks) call_kind) (same_callee a b (name_in w) l s)
same_kind forms.ExprNode h a b w parts ks l s = refl
same_kind forms.AssignNode h a b w parts ks l s = refl
same_kind forms.CondNode h a b w parts ks l s = refl
same_kind forms.OrNode h a b w parts ks l s = refl
same_kind forms.AndNode h a b w parts ks l s = refl
same_kind forms.BorNode h a b w parts ks l s = refl
same_kind forms.BxorNode h a b w parts ks l s = refl
same_kind forms.BandNode h a b w parts ks l s = refl
same_kind forms.EqualNode h a b w parts ks l s = refl
same_kind forms.OrderNode h a b w parts ks l s = refl
same_kind forms.ShiftNode h a b w parts ks l s = refl
same_kind forms.SumNode h a b w parts ks l s = refl
same_kind forms.TermNode h a b w parts ks l s = refl
same_kind forms.CastNode h a b w parts ks l s = refl
same_kind forms.UnaryNode h a b w parts ks l s = refl
same_kind forms.PostfixNode h a b w parts ks l s = refl
same_kind forms.TruthNode h a b w parts ks l s = refl
same_kind forms.ParenNode h a b w parts ks l s = refl
same_kind forms.NumberNode h a b w parts ks l s = refl
same_kind _ h a b w parts ks l s = absurd (false≢true h)

same_place : (a b : Env) (token : ℕ) → Like a b → place_of a token ≡ place_of b token
same_place a b token l = ap (λ z. or_start (slice_get z token)) l.places

same_made_name : (a b : Env) (name : List ℕ) (first : ℕ) (sites : List Place) → Like a b →
    meaning_of a name ≡ meaning_of b name →
    flagged_made a (place_of a first) sites name ≡ flagged_made b (place_of b first) sites name
same_made_name a b name first sites l e =
    ap (λ z. flagged_made a z sites name) (same_place a b first l) ∙
    ap (λ z. if z then made (value (literal (pos 0) types.Uint)) sites else
    name_made (place_of b first) sites (meaning_of a name)) (same_flag a b name l) ∙
    ap (λ z. if is_flag b name then made (value (literal (pos 0) types.Uint)) sites else
    name_made (place_of b first) sites z) e

same_made : (form : Form) → is_expression form ≡ true → (a b c d : Env) (w : List ℕ) (first : ℕ) (parts : Forest)
    (sites : List Place) (ps : List Piece) → Like a b → SameName a b form w →
    make a c form w first parts sites ps ≡ make b d form w first parts sites ps
unfolding make
same_made forms.VariableNode h a b c d w first parts sites ps l s = same_made_name a b (name_in w) first sites l s
same_made forms.CallNode h a b c d w first parts sites ps l s =
    ap (λ z. call_made z sites ps (callee_of a (name_in w))) (same_place a b first l) ∙
    ap (λ z. call_made (place_of b first) sites ps z) (same_callee a b (name_in w) l s)
same_made forms.ExprNode h a b c d w first parts sites ps l s = refl
same_made forms.AssignNode h a b c d w first parts sites ps l s = refl
same_made forms.CondNode h a b c d w first parts sites ps l s =
    ap (λ z. choice_made z sites ps) (same_place a b first l)
same_made forms.OrNode h a b c d w first parts sites ps l s = ap (λ z. or_made z sites ps) (same_place a b first l)
same_made forms.AndNode h a b c d w first parts sites ps l s = ap (λ z. and_made z sites ps) (same_place a b first l)
same_made forms.BorNode h a b c d w first parts sites ps l s = refl
same_made forms.BxorNode h a b c d w first parts sites ps l s = refl
same_made forms.BandNode h a b c d w first parts sites ps l s = refl
same_made forms.EqualNode h a b c d w first parts sites ps l s = refl
same_made forms.OrderNode h a b c d w first parts sites ps l s = refl
same_made forms.ShiftNode h a b c d w first parts sites ps l s = refl
same_made forms.SumNode h a b c d w first parts sites ps l s = refl
same_made forms.TermNode h a b c d w first parts sites ps l s = refl
same_made forms.CastNode h a b c d w first parts sites ps l s = refl
same_made forms.UnaryNode h a b c d w first parts sites ps l s =
    ap (λ z. prefix_made z sites parts (prefix_in w) ps) (same_place a b first l)
same_made forms.PostfixNode h a b c d w first parts sites ps l s =
    ap (λ z. postfix_made z sites (postfix_in w) ps) (same_place a b first l)
same_made forms.TruthNode h a b c d w first parts sites ps l s = refl
same_made forms.ParenNode h a b c d w first parts sites ps l s = refl
same_made forms.NumberNode h a b c d w first parts sites ps l s = refl
same_made _ h a b c d w first parts sites ps l s = absurd (false≢true h)

-- ---- trees

-- a node made from its parts
abbrev pub node_made : Env → Env → Form → List ℕ → ℕ → Forest → MadeParts → Made
node_made env inner form w f parts ms =
    piece_made (kind_step env form w parts (kinds_in ms.pieces)) (make env inner form w f parts ms.sites ms.pieces)

pub made_is : (env : Env) (sites : List Place) (form : Form) (w : List ℕ) (f l : ℕ) (parts : Forest) →
    is_expression form ≡ true → AreOperands parts →
    meant env sites (node form w f l parts) ≡ node_made env (inside env form w) form w f parts
    (parts_here (inside env form w) sites parts)
unfolding meant kind_of
made_is env sites form w f l parts e h =
    ap (λ z. piece_made (kind_step z form w parts (kinds_of i form true parts))
    (make_from z (behind_parts i form true parts) form w f parts
    (parts_meant i form true sites parts))) (visible_same env form w f l parts e h)
    ∙
    (ap (λ z. piece_made (kind_step env form w parts (kinds_of i form true parts))
    (make_from env z form w f parts (parts_meant i form true sites parts)))
    (neutral_parts i form e true parts h)
    ∙
    (ap (λ z. piece_made (kind_step env form w parts (kinds_of i form true parts))
    (make_from env i form w f parts z)) (parts_plain form e i true sites parts h)
    ∙
    ap (λ z. piece_made (kind_step env form w parts z)
    (make_from env i form w f parts (parts_here i sites parts))) (kinds_are env sites form w parts e h)))
  where
    i : Env
    i = inside env form w

-- a type stands for nothing
type_meant : (a b : Env) (sites : List Place) (t : Syntax) → IsType t → meant a sites t ≡ meant b sites t
unfolding meant make kind_of kind_step parts_meant
type_meant a b sites (node forms.TypeNode w f l none) h = refl
type_meant a b sites (node forms.TypeNode w f l (more (node forms.SpaceNode w' f' l' none) none)) h = refl
type_meant a b sites t h = absurd h

-- nodes made of the same parts
node_alike : (form : Form) → is_expression form ≡ true → (a b c d : Env) (w : List ℕ) (f : ℕ) (parts : Forest)
    (ms : MadeParts) → Like a b → SameName a b form w →
    node_made a c form w f parts ms ≡ node_made b d form w f parts ms
node_alike form h a b c d w f parts ms k s =
    ap (λ z. piece_made z (make a c form w f parts ms.sites ms.pieces))
    (same_kind form h a b w parts (kinds_in ms.pieces) k s) ∙
    ap (λ z. piece_made (kind_step b form w parts (kinds_in ms.pieces)) z)
    (same_made form h a b c d w f parts ms.sites ms.pieces k s)

mutual
  -- an expression stands for the same where its names do
  pub alike : (t : Syntax) (a b : Env) (sites : List Place) → OfExpressions t → Like a b → SameNames a b t →
      meant a sites t ≡ meant b sites t
  alike (node form w f l parts) a b sites h k s =
      let p = parts_alike parts (inside a form w) (inside b form w) sites h.1 (like_inside form h.0 a b w k s.0)
      (all_there parts a b (inside a form w) (inside b form w) (inside_meaning form h.0 a w)
      (inside_meaning form h.0 b w) s.1) in
      made_is a sites form w f l parts h.0 h.1 ∙
      ap (λ z. node_made a (inside a form w) form w f parts z) p ∙
      node_alike form h.0 a b (inside a form w) (inside b form w) w f parts (parts_here (inside b form w) sites parts) k
      s.0 ∙
      sym (made_is b sites form w f l parts h.0 h.1)

  pub parts_alike : (parts : Forest) (a b : Env) (sites : List Place) → AreOperands parts → Like a b →
      AllSame a b parts → parts_here a sites parts ≡ parts_here b sites parts
  parts_alike none a b sites h k s = refl
  parts_alike (more p ps) a b sites (inl x, hs) k s =
      ap (λ z. with_piece z.piece (parts_here a z.sites ps)) (alike p a b sites x k s.0) ∙
      ap (λ z. with_piece (meant b sites p).piece z) (parts_alike ps a b (meant b sites p).sites hs k s.1)
  parts_alike (more p ps) a b sites (inr x, hs) k s =
      ap (λ z. with_piece z.piece (parts_here a z.sites ps)) (type_meant a b sites p x) ∙
      ap (λ z. with_piece (meant b sites p).piece z) (parts_alike ps a b (meant b sites p).sites hs k s.1)
