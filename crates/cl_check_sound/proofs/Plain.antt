-- The parts of an expression are looked at with what is visible at the expression.
use Rattle.std.proofs.Common.{◌≡◌, ℕ, List, [], ◌∷◌, Option, None, Some, Bool, true, false, refl, ap, ◌∙◌, subst, inl}
use Rattle.std.proofs.Common.{inr, ◌⊎◌}
use Rattle.std.proofs.lemmas.Bool.{false≢true}
use Rattle.wg_num.specs.declared.types.Place.{Place}
use Rattle.cl_tree.specs.declared.tree.Form.{Form}
use Rattle.cl_tree.specs.declared.tree.Form.TheVariants as forms
use Rattle.cl_tree.specs.Syntax.{Syntax, node, Forest, none, more, last_of}
use Rattle.cl_meaning.specs.declared.kind.Kind.{Kind}
use Rattle.cl_meaning.specs.declared.kind.Role.{Role}
use Rattle.cl_meaning.specs.declared.kind.Role.TheVariants as roles
use Rattle.cl_meaning.specs.Environment.{Env}
use Rattle.cl_meaning.specs.Visible.{Node, Before, is_front, role_of, inside, later, restored, closed, behind}
use Rattle.cl_meaning.specs.Visible.{kind_of, kinds_of, in_order, parts_in_order, visible_at}
use Rattle.cl_meaning.specs.Faults.{Asked}
use Rattle.cl_meaning.specs.Meant.{MadeParts, with_piece, meant, parts_meant}
use Rattle.cl_check_sound.specs.Sound.{SoundTree, SoundParts, AllGood}
use Rattle.cl_check_sound.specs.Shape.{is_expression, IsType, OfExpressions, AreOperands}
use Rattle.cl_check_sound.proofs.Neutral.{closed_same, later_expression, behind_type, neutral, neutral_parts}

-- ---- sound trees

mutual
  unfolding in_order

  pub sound_tree : (asked : Asked) (env : Env) (role : Role) (t : Syntax) (rest : List Node) →
      AllGood asked (in_order env role t rest) → SoundTree asked env role t × AllGood asked rest
  sound_tree asked env role (node form w f l parts) rest h =
      let p = sound_parts asked (inside env form w) form None parts (record {
        visible = env;
        role = role;
        tree = node form w f l parts;
      } ∷ rest) h in
      ((p.0, p.1.0), p.1.1)

  pub sound_parts : (asked : Asked) (env : Env) (form : Form) (b : Before) (parts : Forest) (rest : List Node) →
      AllGood asked (parts_in_order env form b parts rest) → SoundParts asked env form b parts × AllGood asked rest
  sound_parts asked env form b none rest h = (tt, h)
  sound_parts asked env form b (more p ps) rest h =
      let next = later (behind env p) form (is_front b) p (kind_of env p) in
      let q = sound_tree asked env (role_of form b p) p (parts_in_order next form (Some (last_of p)) ps rest) h in
      let r = sound_parts asked next form (Some (last_of p)) ps rest q.1 in
      ((q.0, r.0), r.1)

-- ---- the parts of an expression

-- what is visible behind a part of an expression is what was visible before it
pub next_same : (form : Form) → is_expression form ≡ true → (env : Env) (front : Bool) (p : Syntax) →
    OfExpressions p ⊎ IsType p → later (behind env p) form front p (kind_of env p) ≡ env
next_same form e env front p (inl h) = later_expression form e (behind env p) front p (kind_of env p) ∙ neutral env p h
next_same form e env front p (inr h) =
    later_expression form e (behind env p) front p (kind_of env p) ∙ behind_type env p h

-- the kinds of trees that are looked at with the same things visible
abbrev pub kinds_here : Env → Forest → List (Option Kind)
kinds_here env none = []
kinds_here env (more p ps) = kind_of env p ∷ kinds_here env ps

pub kinds_plain : (form : Form) → is_expression form ≡ true → (env : Env) (front : Bool) (parts : Forest) →
    AreOperands parts → kinds_of env form front parts ≡ kinds_here env parts
unfolding kinds_of
kinds_plain form e env front none h = refl
kinds_plain form e env front (more p ps) h =
    ap (λ z. kind_of env p ∷ kinds_of z form false ps) (next_same form e env front p h.0) ∙
    ap (λ z. kind_of env p ∷ z) (kinds_plain form e env false ps h.1)

-- what they stand for
abbrev pub parts_here : Env → List Place → Forest → MadeParts
parts_here env sites none = record { pieces = []; sites = sites }
parts_here env sites (more p ps) = with_piece (meant env sites p).piece (parts_here env (meant env sites p).sites ps)

pub parts_plain : (form : Form) → is_expression form ≡ true →
    (env : Env) (front : Bool) (sites : List Place) (parts : Forest) → AreOperands parts →
    parts_meant env form front sites parts ≡ parts_here env sites parts
unfolding parts_meant
parts_plain form e env front sites none h = refl
parts_plain form e env front sites (more p ps) h =
    ap (λ z. with_piece (meant env sites p).piece (parts_meant z form false (meant env sites p).sites ps))
    (next_same form e env front p h.0)
    ∙ ap (λ z. with_piece (meant env sites p).piece z) (parts_plain form e env false (meant env sites p).sites ps h.1)

-- the place of a part of an expression does not matter
role_expression : (form : Form) → is_expression form ≡ true → (b : Before) (p : Syntax) → role_of form b p ≡ roles.Other
role_expression forms.ExprNode h b p = refl
role_expression forms.AssignNode h b p = refl
role_expression forms.CondNode h b p = refl
role_expression forms.OrNode h b p = refl
role_expression forms.AndNode h b p = refl
role_expression forms.BorNode h b p = refl
role_expression forms.BxorNode h b p = refl
role_expression forms.BandNode h b p = refl
role_expression forms.EqualNode h b p = refl
role_expression forms.OrderNode h b p = refl
role_expression forms.ShiftNode h b p = refl
role_expression forms.SumNode h b p = refl
role_expression forms.TermNode h b p = refl
role_expression forms.CastNode h b p = refl
role_expression forms.UnaryNode h b p = refl
role_expression forms.PostfixNode h b p = refl
role_expression forms.TruthNode h b p = refl
role_expression forms.VariableNode h b p = refl
role_expression forms.CallNode h b p = refl
role_expression forms.ParenNode h b p = refl
role_expression forms.NumberNode h b p = refl
role_expression _ h b p = absurd (false≢true h)

-- no node of theirs is at fault
abbrev pub SoundHere : Asked → Env → Forest → Type 0
SoundHere asked env none = Unit {0}
SoundHere asked env (more p ps) = SoundTree asked env roles.Other p × SoundHere asked env ps

pub sound_plain : (form : Form) → is_expression form ≡ true →
    (asked : Asked) (env : Env) (b : Before) (parts : Forest) → AreOperands parts →
    SoundParts asked env form b parts → SoundHere asked env parts
sound_plain form e asked env b none h s = tt
sound_plain form e asked env b (more p ps) h s = (
  subst (λ r. SoundTree asked env r p) (role_expression form e b p) s.0,
  sound_plain form e asked env (Some (last_of p)) ps h.1 (subst (λ z. SoundParts asked z form (Some (last_of p)) ps)
      (next_same form e env (is_front b) p h.0) s.1),
)

-- ---- at an expression

at_same : (form : Form) → is_expression form ≡ true → (env : Env) (w : List ℕ) →
    restored form env (inside env form w) ≡ closed env env
unfolding restored inside
at_same forms.ExprNode h env w = refl
at_same forms.AssignNode h env w = refl
at_same forms.CondNode h env w = refl
at_same forms.OrNode h env w = refl
at_same forms.AndNode h env w = refl
at_same forms.BorNode h env w = refl
at_same forms.BxorNode h env w = refl
at_same forms.BandNode h env w = refl
at_same forms.EqualNode h env w = refl
at_same forms.OrderNode h env w = refl
at_same forms.ShiftNode h env w = refl
at_same forms.SumNode h env w = refl
at_same forms.TermNode h env w = refl
at_same forms.CastNode h env w = refl
at_same forms.UnaryNode h env w = refl
at_same forms.PostfixNode h env w = refl
at_same forms.TruthNode h env w = refl
at_same forms.VariableNode h env w = refl
at_same forms.CallNode h env w = refl
at_same forms.ParenNode h env w = refl
at_same forms.NumberNode h env w = refl
at_same _ h env w = absurd (false≢true h)

-- what is visible at an expression behind its parts is what was visible before them
pub visible_same : (env : Env) (form : Form) (w : List ℕ) (f l : ℕ) (parts : Forest) → is_expression form ≡ true →
    AreOperands parts → visible_at env (node form w f l parts) ≡ env
visible_same env form w f l parts e h =
    ap (restored form env) (neutral_parts (inside env form w) form e true parts h) ∙ at_same form e env w ∙
    closed_same env
