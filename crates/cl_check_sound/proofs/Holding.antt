-- What an expression stands for holds no more nodes, sites and calls than its tree: a sum over each, with any weights.
use Rattle.std.proofs.Common.{◌≡◌, ℕ, ◌+◌, ◌*◌, ◌≤◌, List, [], length, Option, None, Some, Bool, true, false, nat_eq}
use Rattle.std.proofs.Common.{if◌then◌else◌, refl, ap, sym, ◌∙◌, subst, arith}
use Rattle.std.proofs.lemmas.Bool.Decides.{nat_tests}
use Rattle.wg_num.specs.declared.types.Place.{Place}
use Rattle.cl_tree.specs.declared.tree.Form.{Form}
use Rattle.cl_tree.specs.declared.tree.Form.TheVariants as forms
use Rattle.cl_tree.specs.Syntax.{Syntax, node, Forest, none, more}
use Rattle.cl_limits.specs.Limits.{called_sum}
use Rattle.cl_meaning.specs.Spelling.{name_in, declared_in, binary_in, setting_in, prefix_in, postfix_in, literal_in}
use Rattle.cl_meaning.specs.Spelling.{truth_in}
use Rattle.cl_meaning.specs.Environment.{Env, place_of}
use Rattle.cl_meaning.specs.Kinds.{Callee, defined, undefined, known, callee_of, kind_step}
use Rattle.cl_meaning.specs.Visible.{inside, later, behind, behind_parts, kind_of, kinds_of, visible_at}
use Rattle.cl_meaning.specs.Faults.{Call, call_in}
use Rattle.cl_meaning.specs.Typed.{Made}
use Rattle.cl_meaning.specs.Meant.{meant, parts_meant, make, make_from, piece_made}
use Rattle.cl_check_sound.specs.Shape.{is_expression, IsType, AreOperands, IsExpression, AreExpressions}
use Rattle.cl_check_sound.proofs.Neutral.{neutral_parts}
use Rattle.cl_check_sound.proofs.Shapes.{of_expressions}
use Rattle.cl_check_sound.proofs.Plain.{parts_here, parts_plain, visible_same, next_same}
use Rattle.cl_check_sound.proofs.Expressing.{kinds_in, kinds_are}
use Rattle.cl_check_sound.proofs.Measure.{Weights, free_wider}
use Rattle.cl_check_sound.proofs.Small.{Small, held, AllFree, room, callee_weight, number_small, truth_small}
use Rattle.cl_check_sound.proofs.Small.{variable_small, binary_small, comma_small, and_small, or_small, choice_small}
use Rattle.cl_check_sound.proofs.Small.{cast_small, set_small, prefix_small, step_small, indexed_small, call_small}

-- ---- what a tree allows

-- the call that a node makes
abbrev pub node_calls : Env → Form → List ℕ → List Call
node_calls env forms.CallNode w = call_in env (callee_of env (name_in w))
node_calls env form w = []

-- the calls of the function with that number in a tree, and sixteen nodes for each node
abbrev mutual
  pub extra : Weights → ℕ → Env → Syntax → ℕ
  extra m k env (node form w f l parts) =
      extras m k (inside env form w) form true parts +
      (called_sum m.called (node_calls (visible_at env (node form w f l parts)) form w) k + 16 * m.plain)

  pub extras : Weights → ℕ → Env → Form → Bool → Forest → ℕ
  extras m k env form front none = 0
  extras m k env form front (more p ps) =
      extra m k env p + extras m k (later (behind env p) form front p (kind_of env p)) form false ps

-- of trees that are looked at with the same things visible
abbrev pub extras_here : Weights → ℕ → Env → Forest → ℕ
extras_here m k env none = 0
extras_here m k env (more p ps) = extra m k env p + extras_here m k env ps

extras_plain : (m : Weights) (k : ℕ) (form : Form) → is_expression form ≡ true →
    (env : Env) (front : Bool) (parts : Forest) → AreOperands parts →
    extras m k env form front parts ≡ extras_here m k env parts
extras_plain m k form e env front none h = refl
extras_plain m k form e env front (more p ps) h =
    ap (λ z. extra m k env p + extras m k z form false ps) (next_same form e env front p h.0) ∙
    ap (λ z. extra m k env p + z) (extras_plain m k form e env false ps h.1)

extra_is : (m : Weights) (k : ℕ) (env : Env) (form : Form) (w : List ℕ) (f l : ℕ) (parts : Forest) →
    is_expression form ≡ true → AreOperands parts →
    extra m k env (node form w f l parts) ≡ extras_here m k (inside env form w) parts +
    (called_sum m.called (node_calls env form w) k + 16 * m.plain)
extra_is m k env form w f l parts e h =
    ap (λ z. z + (called_sum m.called (node_calls (visible_at env (node form w f l parts)) form w) k + 16 * m.plain))
    (extras_plain m k form e (inside env form w) true parts h)
    ∙ ap (λ z. extras_here m k (inside env form w) parts + (called_sum m.called (node_calls z form w) k + 16 *
    m.plain)) (visible_same env form w f l parts e h)

-- a node made from its parts
pub meant_is : (env : Env) (sites : List Place) (form : Form) (w : List ℕ) (f l : ℕ) (parts : Forest) →
    is_expression form ≡ true → AreOperands parts →
    meant env sites (node form w f l parts) ≡
    piece_made (kind_step env form w parts (kinds_in (parts_here (inside env form w) sites parts).pieces))
    (make_from env (inside env form w) form w f parts (parts_here (inside env form w) sites parts))
unfolding meant kind_of
meant_is env sites form w f l parts e h =
    ap (λ z. piece_made (kind_step z form w parts (kinds_of i form true parts))
    (make_from z (behind_parts i form true parts) form w f parts (parts_meant i form true sites parts)))
    (visible_same env form w f l parts e h)
    ∙ (ap (λ z. piece_made (kind_step env form w parts (kinds_of i form true parts))
    (make_from env z form w f parts (parts_meant i form true sites parts)))
    (neutral_parts i form e true parts h)
    ∙ (ap (λ z. piece_made (kind_step env form w parts (kinds_of i form true parts))
    (make_from env i form w f parts z)) (parts_plain form e i true sites parts h)
    ∙ ap (λ z. piece_made (kind_step env form w parts z) (make_from env i form w f parts (parts_here i sites parts)))
    (kinds_are env sites form w parts e h)))
  where
    i : Env
    i = inside env form w

-- a type takes no site
space_sites : (env : Env) (sites : List Place) (w : List ℕ) (f l : ℕ) →
    (meant env sites (node forms.SpaceNode w f l none)).sites ≡ sites
unfolding meant parts_meant make
space_sites env sites w f l = refl

pub type_sites : (env : Env) (sites : List Place) (t : Syntax) → IsType t → (meant env sites t).sites ≡ sites
unfolding meant parts_meant make inside
type_sites env sites (node forms.TypeNode w f l none) h = refl
type_sites env sites (node forms.TypeNode w f l (more (node forms.SpaceNode w' f' l' none) none)) h =
    space_sites env sites w' f' l'
type_sites env sites t h = absurd h

-- ---- nodes

widened : (m : Weights) (before : ℕ) (w : _) (u v : ℕ) → Small m before w u → u ≤ v → Small m before w v
widened m before w u v p h = let b =
    p.bound in record { bound = omega arith; free = free_wider m before u v w h p.free }

-- what is shown of the parts holds of the node
node_holds : (m : Weights) (k : ℕ) (env : Env) (sites : List Place) (form : Form) (w : List ℕ) (f l : ℕ)
    (parts : Forest) → IsExpression (node form w f l parts) →
    Small m (held m (length sites))
    (make env (inside env form w) form w f parts (parts_here (inside env form w) sites parts).sites
    (parts_here (inside env form w) sites parts).pieces).what
    (held m (length (make env (inside env form w) form w f parts (parts_here (inside env form w) sites parts).sites
    (parts_here (inside env form w) sites parts).pieces).sites) +
    (extras_here m k (inside env form w) parts + (called_sum m.called (node_calls env form w) k + 16 *
    m.plain))) →
    Small m (held m (length sites)) (meant env sites (node form w f l parts)).piece.what
    (held m (length (meant env sites (node form w f l parts)).sites) + extra m k env (node form w f l parts))
node_holds m k env sites form w f l parts h x =
    let o = of_expressions (node form w f l parts) h in
    subst (λ (z : Made). Small m (held m (length sites)) z.piece.what (held m (length z.sites) +
    extra m k env (node form w f l parts))) (sym (meant_is env sites form w f l parts o.0 o.1))
    (subst (λ z. Small m (held m (length sites)) (make_from env (inside env form w) form w f parts
    (parts_here (inside env form w) sites parts)).what
    (held m (length (make_from env (inside env form w) form w f parts
    (parts_here (inside env form w) sites parts)).sites) + z))
    (sym (extra_is m k env form w f l parts o.0 o.1)) x)

pub same_number : (n : ℕ) → nat_eq n n ≡ true
same_number n = grind (arith, nat_tests)

-- a call of a function of the unit counts at its caller
callee_counted : (m : Weights) (k : ℕ) (env : Env) (o : Option Callee) → env.owner.number ≡ k →
    callee_weight m o ≤ called_sum m.called (call_in env o) k
callee_counted m k env (Some (defined n g)) h =
    subst (λ z. m.called n ≤ (if nat_eq z k then m.called n else 0) + 0) (sym h)
    (subst (λ b. m.called n ≤ (if b then m.called n else 0) + 0) (sym (same_number k)) (omega arith))
callee_counted m k env (Some undefined) h = omega arith
callee_counted m k env (Some (known i)) h = omega arith
callee_counted m k env None h = omega arith

type_kept : (m : Weights) (sites later : List Place) (x : ℕ) → later ≡ sites →
    held m (length sites) ≤ held m (length later) + x
type_kept m sites later x e = subst (λ z. held m (length sites) ≤ held m (length z) + x) (sym e) (omega arith)

mutual
  unfolding inside make

  pub holds : (m : Weights) (k : ℕ) (env : Env) (sites : List Place) (t : Syntax) → IsExpression t → AllFree m env →
      env.owner.number ≡ k →
      Small m (held m (length sites)) (meant env sites t).piece.what (held m (length (meant env sites t).sites) +
      extra m k env t)
  holds m k env sites (node forms.NumberNode w f l none) h free n =
      node_holds m k env sites forms.NumberNode w f l none h
      (widened m (held m (length sites)) _ _ _ (number_small m (held m (length sites)) (literal_in w))
      (omega arith))
  holds m k env sites (node forms.TruthNode w f l none) h free n =
      node_holds m k env sites forms.TruthNode w f l none h
      (widened m (held m (length sites)) _ _ _ (truth_small m (held m (length sites)) (truth_in w)) (omega arith))
  holds m k env sites (node forms.VariableNode w f l none) h free n =
      node_holds m k env sites forms.VariableNode w f l none h
      (widened m (held m (length sites)) _ _ _ (variable_small m env (place_of env f) sites (name_in w) free)
      (omega arith))
  holds m k env sites (node forms.ParenNode w f l (more a none)) h free n =
      node_holds m k env sites forms.ParenNode w f l (more a none) h
      (widened m (held m (length sites)) _ _ _ (holds m k env sites a h free n) (omega arith))
  holds m k env sites (node forms.BorNode w f l (more a (more b none))) h free n =
      let s1 = (meant env sites a).sites in
      let s2 = (meant env s1 b).sites in
      let x = holds m k env sites a h.1 free n in
      let y = holds m k env s1 b h.2 free n in
      node_holds m k env sites forms.BorNode w f l (more a (more b none)) h
      (widened m (held m (length sites)) _ _ _ (binary_small m (binary_in w) s2 (meant env sites a).piece
      (meant env s1 b).piece (held m (length sites)) (held m (length s1)) (extra m k env a) (extra m k env b)
      x y) (omega arith))
  holds m k env sites (node forms.BxorNode w f l (more a (more b none))) h free n =
      let s1 = (meant env sites a).sites in
      let s2 = (meant env s1 b).sites in
      let x = holds m k env sites a h.1 free n in
      let y = holds m k env s1 b h.2 free n in
      node_holds m k env sites forms.BxorNode w f l (more a (more b none)) h
      (widened m (held m (length sites)) _ _ _ (binary_small m (binary_in w) s2 (meant env sites a).piece
      (meant env s1 b).piece (held m (length sites)) (held m (length s1)) (extra m k env a) (extra m k env b)
      x y) (omega arith))
  holds m k env sites (node forms.BandNode w f l (more a (more b none))) h free n =
      let s1 = (meant env sites a).sites in
      let s2 = (meant env s1 b).sites in
      let x = holds m k env sites a h.1 free n in
      let y = holds m k env s1 b h.2 free n in
      node_holds m k env sites forms.BandNode w f l (more a (more b none)) h
      (widened m (held m (length sites)) _ _ _ (binary_small m (binary_in w) s2 (meant env sites a).piece
      (meant env s1 b).piece (held m (length sites)) (held m (length s1)) (extra m k env a) (extra m k env b)
      x y) (omega arith))
  holds m k env sites (node forms.EqualNode w f l (more a (more b none))) h free n =
      let s1 = (meant env sites a).sites in
      let s2 = (meant env s1 b).sites in
      let x = holds m k env sites a h.1 free n in
      let y = holds m k env s1 b h.2 free n in
      node_holds m k env sites forms.EqualNode w f l (more a (more b none)) h
      (widened m (held m (length sites)) _ _ _ (binary_small m (binary_in w) s2 (meant env sites a).piece
      (meant env s1 b).piece (held m (length sites)) (held m (length s1)) (extra m k env a) (extra m k env b)
      x y) (omega arith))
  holds m k env sites (node forms.OrderNode w f l (more a (more b none))) h free n =
      let s1 = (meant env sites a).sites in
      let s2 = (meant env s1 b).sites in
      let x = holds m k env sites a h.1 free n in
      let y = holds m k env s1 b h.2 free n in
      node_holds m k env sites forms.OrderNode w f l (more a (more b none)) h
      (widened m (held m (length sites)) _ _ _ (binary_small m (binary_in w) s2 (meant env sites a).piece
      (meant env s1 b).piece (held m (length sites)) (held m (length s1)) (extra m k env a) (extra m k env b)
      x y) (omega arith))
  holds m k env sites (node forms.ShiftNode w f l (more a (more b none))) h free n =
      let s1 = (meant env sites a).sites in
      let s2 = (meant env s1 b).sites in
      let x = holds m k env sites a h.1 free n in
      let y = holds m k env s1 b h.2 free n in
      node_holds m k env sites forms.ShiftNode w f l (more a (more b none)) h
      (widened m (held m (length sites)) _ _ _ (binary_small m (binary_in w) s2 (meant env sites a).piece
      (meant env s1 b).piece (held m (length sites)) (held m (length s1)) (extra m k env a) (extra m k env b)
      x y) (omega arith))
  holds m k env sites (node forms.SumNode w f l (more a (more b none))) h free n =
      let s1 = (meant env sites a).sites in
      let s2 = (meant env s1 b).sites in
      let x = holds m k env sites a h.1 free n in
      let y = holds m k env s1 b h.2 free n in
      node_holds m k env sites forms.SumNode w f l (more a (more b none)) h
      (widened m (held m (length sites)) _ _ _ (binary_small m (binary_in w) s2 (meant env sites a).piece
      (meant env s1 b).piece (held m (length sites)) (held m (length s1)) (extra m k env a) (extra m k env b)
      x y) (omega arith))
  holds m k env sites (node forms.TermNode w f l (more a (more b none))) h free n =
      let s1 = (meant env sites a).sites in
      let s2 = (meant env s1 b).sites in
      let x = holds m k env sites a h.1 free n in
      let y = holds m k env s1 b h.2 free n in
      node_holds m k env sites forms.TermNode w f l (more a (more b none)) h
      (widened m (held m (length sites)) _ _ _ (binary_small m (binary_in w) s2 (meant env sites a).piece
      (meant env s1 b).piece (held m (length sites)) (held m (length s1)) (extra m k env a) (extra m k env b)
      x y) (omega arith))
  holds m k env sites (node forms.ExprNode w f l (more a (more b none))) h free n =
      let s1 = (meant env sites a).sites in
      let s2 = (meant env s1 b).sites in
      let x = holds m k env sites a h.0 free n in
      let y = holds m k env s1 b h.1 free n in
      node_holds m k env sites forms.ExprNode w f l (more a (more b none)) h
      (widened m (held m (length sites)) _ _ _ (comma_small m s2 (meant env sites a).piece (meant env s1 b).piece
      (held m (length sites)) (held m (length s1)) (extra m k env a) (extra m k env b) x y) (omega arith))
  holds m k env sites (node forms.AndNode w f l (more a (more b none))) h free n =
      let s1 = (meant env sites a).sites in
      let s2 = (meant env s1 b).sites in
      let x = holds m k env sites a h.0 free n in
      let y = holds m k env s1 b h.1 free n in
      node_holds m k env sites forms.AndNode w f l (more a (more b none)) h
      (widened m (held m (length sites)) _ _ _ (and_small m (place_of env f) s2 (meant env sites a).piece
      (meant env s1 b).piece (held m (length sites)) (held m (length s1)) (extra m k env a) (extra m k env b)
      x y) (omega arith))
  holds m k env sites (node forms.OrNode w f l (more a (more b none))) h free n =
      let s1 = (meant env sites a).sites in
      let s2 = (meant env s1 b).sites in
      let x = holds m k env sites a h.0 free n in
      let y = holds m k env s1 b h.1 free n in
      node_holds m k env sites forms.OrNode w f l (more a (more b none)) h
      (widened m (held m (length sites)) _ _ _ (or_small m (place_of env f) s2 (meant env sites a).piece
      (meant env s1 b).piece (held m (length sites)) (held m (length s1)) (extra m k env a) (extra m k env b)
      x y) (omega arith))
  holds m k env sites (node forms.AssignNode w f l (more a (more b none))) h free n =
      let s1 = (meant env sites a).sites in
      let s2 = (meant env s1 b).sites in
      let x = holds m k env sites a h.1 free n in
      let y = holds m k env s1 b h.2 free n in
      node_holds m k env sites forms.AssignNode w f l (more a (more b none)) h
      (widened m (held m (length sites)) _ _ _ (set_small m (setting_in w) s2 (meant env sites a).piece
      (meant env s1 b).piece (held m (length sites)) (held m (length s1)) (extra m k env a) (extra m k env b)
      x y) (omega arith))
  holds m k env sites (node forms.PostfixNode w f l (more a (more b none))) h free n =
      let s1 = (meant env sites a).sites in
      let s2 = (meant env s1 b).sites in
      let x = holds m k env sites a h.1 free n in
      let y = holds m k env s1 b h.2 free n in
      node_holds m k env sites forms.PostfixNode w f l (more a (more b none)) h
      (widened m (held m (length sites)) _ _ _ (indexed_small m (place_of env f) s2 (postfix_in w)
      (meant env sites a).piece (meant env s1 b).piece (held m (length sites)) (held m (length s1))
      (extra m k env a) (extra m k env b) x y) (omega arith))
  holds m k env sites (node forms.CondNode w f l (more c (more a (more b none)))) h free n =
      let s1 = (meant env sites c).sites in
      let s2 = (meant env s1 a).sites in
      let s3 = (meant env s2 b).sites in
      let z = holds m k env sites c h.0 free n in
      let x = holds m k env s1 a h.1 free n in
      let y = holds m k env s2 b h.2 free n in
      node_holds m k env sites forms.CondNode w f l (more c (more a (more b none))) h
      (widened m (held m (length sites)) _ _ _ (choice_small m (place_of env f) s3 (meant env sites c).piece
      (meant env s1 a).piece (meant env s2 b).piece (held m (length sites)) (held m (length s1))
      (held m (length s2)) (extra m k env c) (extra m k env a) (extra m k env b) z x y) (omega arith))
  holds m k env sites (node forms.PostfixNode w f l (more a none)) h free n =
      node_holds m k env sites forms.PostfixNode w f l (more a none) h
      (widened m (held m (length sites)) _ _ _ (step_small m (place_of env f) (meant env sites a).sites (postfix_in w)
      (meant env sites a).piece (held m (length sites)) (extra m k env a) (holds m k env sites a h.2 free n))
      (omega arith))
  holds m k env sites (node forms.UnaryNode w f l (more a none)) h free n =
      node_holds m k env sites forms.UnaryNode w f l (more a none) h
      (widened m (held m (length sites)) _ _ _ (prefix_small m (place_of env f) (meant env sites a).sites
      (prefix_in w) a (IsExpression a) (meant env sites a).piece (held m (length sites)) (extra m k env a) h
      (λ e. holds m k env sites a e free n) (λ e. type_kept m sites (meant env sites a).sites
      (extra m k env a) (type_sites env sites a e))) (omega arith))
  holds m k env sites (node forms.CastNode w f l (more t (more a none))) h free n =
      let s1 = (meant env sites t).sites in
      let s2 = (meant env s1 a).sites in
      let x = subst (λ z. Small m (held m (length z)) (meant env s1 a).piece.what (held m (length s2) +
      extra m k env a)) (type_sites env sites t h.0) (holds m k env s1 a h.1 free n) in
      node_holds m k env sites forms.CastNode w f l (more t (more a none)) h
      (widened m (held m (length sites)) _ _ _ (cast_small m s2 (declared_in t) (meant env sites t).piece
      (meant env s1 a).piece (held m (length sites)) (extra m k env a) x) (omega arith))
  holds m k env sites (node forms.CallNode w f l parts) h free n =
      let i = inside env forms.CallNode w in
      let c = callee_counted m k env (callee_of env (name_in w)) n in
      node_holds m k env sites forms.CallNode w f l parts h
      (widened m (held m (length sites)) _ _ _ (call_small m (place_of env f) (parts_here i sites parts).sites
      (parts_here i sites parts).pieces (callee_of env (name_in w)) (held m (length sites))
      (extras_here m k i parts) (all_hold m k i sites parts h free n)) (omega arith))
  holds m k env sites t h free n = absurd h

  pub all_hold : (m : Weights) (k : ℕ) (env : Env) (sites : List Place) (parts : Forest) → AreExpressions parts →
      AllFree m env → env.owner.number ≡ k →
      room m (parts_here env sites parts).pieces + held m (length sites) ≤
      held m (length (parts_here env sites parts).sites) + extras_here m k env parts
  all_hold m k env sites none h free n = omega arith
  all_hold m k env sites (more p ps) h free n =
      let a = (holds m k env sites p h.0 free n).bound in
      let b = all_hold m k env (meant env sites p).sites ps h.1 free n in
      omega arith
