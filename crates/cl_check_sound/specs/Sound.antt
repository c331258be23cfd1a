-- Trees in which no node is at fault, with the calls of functions without a definition listed.
use Rattle.std.specs.Prelude.{◌≡◌, ℕ, true, List, [], ◌∷◌, None, Some}
use Rattle.cl_tree.specs.declared.tree.Form.{Form}
use Rattle.cl_tree.specs.declared.tree.Form.TheVariants as forms
use Rattle.cl_tree.specs.Syntax.{Syntax, node, Forest, none, more, last_of}
use Rattle.cl_meaning.specs.Spelling.{name_in}
use Rattle.cl_meaning.specs.declared.kind.Role.{Role}
use Rattle.cl_meaning.specs.Environment.{Env}
use Rattle.cl_meaning.specs.Kinds.{undefined, callee_of}
use Rattle.cl_meaning.specs.Declarations.{form_of, word_of}
use Rattle.cl_meaning.specs.Visible.{Node, Before, is_front, role_of, inside, later, behind, kind_of, visible_at}
use Rattle.cl_meaning.specs.Faults.{Asked, Sound, is_called}

-- a call of a function without a definition is listed
abbrev pub ListedAt : Asked → Env → Form → List ℕ → Type 0
ListedAt asked env forms.CallNode w =
    callee_of env (name_in w) ≡ Some undefined → is_called asked.missing (name_in w) ≡ true
ListedAt asked env form w = Unit {0}

abbrev pub Listed : Asked → Node → Type 0
Listed asked n = ListedAt asked (visible_at n.visible n.tree) (form_of n.tree) (word_of n.tree)

abbrev pub AllGood : Asked → List Node → Type 0
AllGood asked [] = Unit {0}
AllGood asked (n ∷ ns) = (Sound asked n × Listed asked n) × AllGood asked ns

-- no node of a tree is at fault
abbrev mutual
  pub SoundTree : Asked → Env → Role → Syntax → Type 0
  SoundTree asked env role (node form w f l parts) = SoundParts asked (inside env form w) form None parts ×
      (Sound asked (record { visible = env; role = role; tree = node form w f l parts }) ×
      Listed asked (record { visible = env; role = role; tree = node form w f l parts }))

  pub SoundParts : Asked → Env → Form → Before → Forest → Type 0
  SoundParts asked env form b none = Unit {0}
  SoundParts asked env form b (more p ps) = SoundTree asked env (role_of form b p) p ×
      SoundParts asked (later (behind env p) form (is_front b) p (kind_of env p)) form (Some (last_of p)) ps
