-- At a statement itself a fault stands only where one stands at the statement of the plain form.
use Rattle.std.proofs.Common.{◌≡◌, ℕ, List, Option, None, Some, true, false, not, ◌||◌, refl, ap, ◌∙◌}
use Rattle.cl_tree.specs.declared.tree.Form.{Form}
use Rattle.cl_tree.specs.declared.tree.Form.TheVariants as forms
use Rattle.cl_tree.specs.Syntax.{Syntax, node, Forest, none, more, last_of}
use Rattle.cl_meaning.specs.declared.fault.Fault.{Fault}
use Rattle.cl_meaning.specs.declared.fault.Fault.TheVariants as faults
use Rattle.cl_meaning.specs.declared.kind.Role.{Role}
use Rattle.cl_meaning.specs.declared.kind.Role.TheVariants as roles
use Rattle.cl_meaning.specs.declared.constant.Constant.{Constant}
use Rattle.cl_meaning.specs.Constants.{constant_of}
use Rattle.cl_meaning.specs.Kinds.{is_some, first_part}
use Rattle.cl_meaning.specs.Environment.{Env, Labels, Owner}
use Rattle.cl_meaning.specs.Visible.{Node, Before, inside, behind, later, kind_of, role_of, is_front, restored}
use Rattle.cl_meaning.specs.Visible.{behind_parts}
use Rattle.cl_meaning.specs.Visible.{kinds_of}
use Rattle.cl_meaning.specs.Faults.{Asked, at_fault, looked, misfits, Sound, given, is_none, is_repeated}
use Rattle.cl_meaning.specs.Faults.{return_misfits}
use Rattle.cl_check_sound.specs.Sound.{SoundTree, SoundParts}
use Rattle.cl_short_vec_faults.specs.SoundBut.{SoundAt, SoundBut, AllSoundBut}

abbrev pub at_node : Env → Form → List ℕ → (f l : ℕ) → Forest → Node
at_node env form w f l parts = record { visible = env; role = roles.Other; tree = node form w f l parts }

-- ---- statements at which no fault ever stands

abbrev pub Quiet : Form → Type 0
Quiet form = (asked : Asked) (env : Env) (w : List ℕ) (f l : ℕ) (parts : Forest) (k : Fault) →
    at_fault asked (looked (at_node env form w f l parts)) k ≡ false

pub block_quiet : Quiet forms.BlockNode
unfolding misfits
block_quiet asked env w f l parts faults.UnknownName = refl
block_quiet asked env w f l parts _ = refl

pub if_quiet : Quiet forms.IfNode
unfolding misfits
if_quiet asked env w f l parts faults.UnknownName = refl
if_quiet asked env w f l parts _ = refl

pub while_quiet : Quiet forms.WhileNode
unfolding misfits
while_quiet asked env w f l parts faults.UnknownName = refl
while_quiet asked env w f l parts _ = refl

pub do_quiet : Quiet forms.DoNode
unfolding misfits
do_quiet asked env w f l parts faults.UnknownName = refl
do_quiet asked env w f l parts _ = refl

pub for_quiet : Quiet forms.ForNode
unfolding misfits
for_quiet asked env w f l parts faults.UnknownName = refl
for_quiet asked env w f l parts _ = refl

pub switch_quiet : Quiet forms.SwitchNode
unfolding misfits
switch_quiet asked env w f l parts faults.UnknownName = refl
switch_quiet asked env w f l parts _ = refl

pub simple_quiet : Quiet forms.SimpleNode
unfolding misfits
simple_quiet asked env w f l parts faults.UnknownName = refl
simple_quiet asked env w f l parts _ = refl

-- ---- exits and labels

pub break_sound : (asked : Asked) (p s : Env) (w : List ℕ) (f l : ℕ) → s.in_loop ≡ p.in_loop →
    s.in_switch ≡ p.in_switch →
    Sound asked (at_node p forms.BreakNode w f l none) → SoundAt asked (at_node s forms.BreakNode w f l none)
unfolding misfits restored inside behind_parts
break_sound asked p s w f l a b h faults.Misplaced e =
    ap (λ z. not (z || s.in_switch)) a ∙ (ap (λ z. not (p.in_loop || z)) b ∙ h faults.Misplaced)
break_sound asked p s w f l a b h _ e = refl

pub continue_sound : (asked : Asked) (p s : Env) (w : List ℕ) (f l : ℕ) → s.in_loop ≡ p.in_loop →
    Sound asked (at_node p forms.ContinueNode w f l none) → SoundAt asked (at_node s forms.ContinueNode w f l none)
unfolding misfits restored inside behind_parts
continue_sound asked p s w f l a h faults.Misplaced e = ap not a ∙ h faults.Misplaced
continue_sound asked p s w f l a h _ e = refl

case_fault : (o : Option Constant) (a b : Option Labels) → a ≡ b →
    (not (is_some o) || given o (is_repeated b)) ≡ false → (not (is_some o) || given o (is_repeated a)) ≡ false
case_fault o a b e h = ap (λ z. not (is_some o) || given o (is_repeated z)) e ∙ h

pub case_sound : (asked : Asked) (p s : Env) (w : List ℕ) (f l : ℕ) (P S : Forest) → s.labels ≡ p.labels →
    constant_of (first_part S) ≡ constant_of (first_part P) → Sound asked (at_node p forms.CaseNode w f l P) →
    SoundAt asked (at_node s forms.CaseNode w f l S)
unfolding misfits restored
case_sound asked p s w f l P S a c h faults.Misplaced e = ap is_none a ∙ h faults.Misplaced
case_sound asked p s w f l P S a c h faults.CaseValue e =
    ap (λ z. not (is_some z) || given z (is_repeated s.labels)) c ∙
    case_fault (constant_of (first_part P)) s.labels p.labels a (h faults.CaseValue)
case_sound asked p s w f l P S a c h _ e = refl

pub default_sound : (asked : Asked) (p s : Env) (w : List ℕ) (f l : ℕ) (P S : Forest) → s.labels ≡ p.labels →
    Sound asked (at_node p forms.DefaultNode w f l P) → SoundAt asked (at_node s forms.DefaultNode w f l S)
unfolding misfits restored
default_sound asked p s w f l P S a h faults.Misplaced e = ap is_none a ∙ h faults.Misplaced
default_sound asked p s w f l P S a h faults.CaseValue e =
    ap (λ z. given z (λ (x : Labels). x.other)) a ∙ h faults.CaseValue
default_sound asked p s w f l P S a h _ e = refl

pub return_sound : (asked : Asked) (p s : Env) (w : List ℕ) (f l : ℕ) (P S : Forest) → s.owner ≡ p.owner →
    kinds_of s forms.ReturnNode true S ≡ kinds_of p forms.ReturnNode true P →
    Sound asked (at_node p forms.ReturnNode w f l P) → SoundAt asked (at_node s forms.ReturnNode w f l S)
unfolding misfits restored inside
return_sound asked p s w f l P S a k h faults.ReturnFit e =
    ap (λ (z : Owner). return_misfits z.result (kinds_of s forms.ReturnNode true S)) a ∙
    (ap (λ z. return_misfits p.owner.result z) k ∙ h faults.ReturnFit)
return_sound asked p s w f l P S a k h _ e = refl

-- ---- all of it

-- a tree of which no node is at fault
mutual
  pub sound_but : (asked : Asked) (env : Env) (role : Role) (t : Syntax) → SoundTree asked env role t →
      SoundBut asked env role t
  sound_but asked env role (node form w f l parts) h =
      (all_but asked (inside env form w) form None parts h.0, ((λ k e. h.1.0 k), h.1.1))

  pub all_but : (asked : Asked) (env : Env) (form : Form) (b : Before) (parts : Forest) →
      SoundParts asked env form b parts → AllSoundBut asked env form b parts
  all_but asked env form b none h = tt
  all_but asked env form b (more p ps) h = (
    sound_but asked env (role_of form b p) p h.0,
    all_but asked (later (behind env p) form (is_front b) p (kind_of env p)) form (Some (last_of p)) ps h.1,
  )
