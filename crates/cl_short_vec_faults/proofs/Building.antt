-- No node of an expression is at fault where none of its parts is and the node is not.
use Rattle.std.proofs.Common.{◌≡◌, ℕ, List, Option, None, Some, Bool, true, false, ◌||◌, refl, ap, sym, ◌∙◌}
use Rattle.std.proofs.Common.{subst}
use Rattle.std.proofs.lemmas.Bool.{false≢true}
use Rattle.cl_tree.specs.declared.tree.Form.{Form}
use Rattle.cl_tree.specs.declared.tree.Form.TheVariants as forms
use Rattle.cl_tree.specs.Syntax.{Syntax, node, Forest, none, more, last_of}
use Rattle.cl_meaning.specs.declared.fault.Fault.{Fault}
use Rattle.cl_meaning.specs.declared.fault.Fault.TheVariants as faults
use Rattle.cl_meaning.specs.declared.kind.Kind.{Kind}
use Rattle.cl_meaning.specs.declared.kind.Role.{Role}
use Rattle.cl_meaning.specs.declared.kind.Role.TheVariants as roles
use Rattle.cl_meaning.specs.Environment.{Env}
use Rattle.cl_meaning.specs.Kinds.{kind_step}
use Rattle.cl_meaning.specs.Visible.{Before, is_front, role_of, inside, kind_of, kinds_of}
use Rattle.cl_meaning.specs.Faults.{Asked, Looked, at_fault, looked_at, unknown_name, declared_twice, misfits}
use Rattle.cl_meaning.specs.Faults.{tested_misfits, miscounted, mispassed, of_target, unassignable, outside_type}
use Rattle.cl_meaning.specs.Faults.{local_misplaced, program_variable, kernel_signature, recursion, pointer_root}
use Rattle.cl_meaning.specs.Faults.{array_length, misplaced, case_value, return_fit, barrier_flags, no_such_kernel}
use Rattle.cl_meaning.specs.Faults.{prototype_match}
use Rattle.cl_meaning.specs.Kinds.{is_constant_memory}
use Rattle.cl_check_sound.specs.Shape.{is_expression, OfExpressions, AreOperands}
use Rattle.cl_check_sound.specs.Sound.{ListedAt, SoundTree, SoundParts}
use Rattle.cl_check_sound.proofs.Plain.{next_same, kinds_here, kinds_plain, SoundHere, sound_plain, visible_same}

-- ---- parts

-- the place of a part of an expression does not matter
role_same : (form : Form) → is_expression form ≡ true → (b : Before) (p : Syntax) → role_of form b p ≡ roles.Other
role_same forms.SimpleNode h b p = absurd (false≢true h)
role_same forms.IfNode h b p = absurd (false≢true h)
role_same forms.WhileNode h b p = absurd (false≢true h)
role_same forms.SwitchNode h b p = absurd (false≢true h)
role_same forms.DoNode h b p = absurd (false≢true h)
role_same forms.ForNode h b p = absurd (false≢true h)
role_same _ h b p = refl

pub built_parts : (form : Form) → is_expression form ≡ true → (asked : Asked) (env : Env) (b : Before)
    (parts : Forest) → AreOperands parts → SoundHere asked env parts → SoundParts asked env form b parts
built_parts form e asked env b none h s = tt
built_parts form e asked env b (more p ps) h s = (
  subst (λ r. SoundTree asked env r p) (sym (role_same form e b p)) s.0,
  subst (λ z. SoundParts asked z form (Some (last_of p)) ps) (sym (next_same form e env (is_front b) p h.0))
      (built_parts form e asked env (Some (last_of p)) ps h.1 s.1),
)

-- ---- a node

-- a node that is looked at, with the kinds of its parts
abbrev pub seen : Env → Role → Form → List ℕ → ℕ → Forest → List (Option Kind) → Looked
seen env role form w f parts ks =
    record { env = env; role = role; form = form; word = w; first = f; parts = parts; kinds' = ks }

looked_seen : (env : Env) (role : Role) (form : Form) (w : List ℕ) (f l : ℕ) (parts : Forest) →
    is_expression form ≡ true → AreOperands parts →
    looked_at env role (node form w f l parts) ≡
    seen env role form w f parts (kinds_here (inside env form w) parts)
looked_seen env role form w f l parts e h =
    ap (λ z. seen z role form w f parts (kinds_of (inside env form w) form true parts))
    (visible_same env form w f l parts e h) ∙
    ap (λ z. seen env role form w f parts z) (kinds_plain form e (inside env form w) true parts h)

-- the kind of a node from those of its parts
pub kind_here : (env : Env) (form : Form) (w : List ℕ) (f l : ℕ) (parts : Forest) →
    is_expression form ≡ true → AreOperands parts →
    kind_of env (node form w f l parts) ≡ kind_step env form w parts (kinds_here (inside env form w) parts)
unfolding kind_of
kind_here env form w f l parts e h =
    ap (λ z. kind_step z form w parts (kinds_of (inside env form w) form true parts))
    (visible_same env form w f l parts e h) ∙
    ap (λ z. kind_step env form w parts z) (kinds_plain form e (inside env form w) true parts h)

abbrev pub NoFault : Asked → Looked → Type 0
NoFault asked n = (k : Fault) → at_fault asked n k ≡ false

-- what it means that no node of an expression is at fault
pub record Taken (asked : Asked) (env : Env) (role : Role) (form : Form) (w : List ℕ) (f : ℕ) (parts : Forest) :
    Type 0 where
  pub parts' : SoundHere asked (inside env form w) parts
  pub node' : NoFault asked (seen env role form w f parts (kinds_here (inside env form w) parts))
  pub listed : ListedAt asked env form w

pub taken : (asked : Asked) (env : Env) (role : Role) (form : Form) (w : List ℕ) (f l : ℕ) (parts : Forest) →
    is_expression form ≡ true → AreOperands parts → SoundTree asked env role (node form w f l parts) →
    Taken asked env role form w f parts
taken asked env role form w f l parts e h s = record {
  parts' = sound_plain form e asked (inside env form w) None parts h s.0;
  node' = subst (λ z. NoFault asked z) (looked_seen env role form w f l parts e h) s.1.0;
  listed = subst (λ z. ListedAt asked z form w) (visible_same env form w f l parts e h) s.1.1;
}

pub built : (asked : Asked) (env : Env) (role : Role) (form : Form) (w : List ℕ) (f l : ℕ) (parts : Forest) →
    is_expression form ≡ true → AreOperands parts → Taken asked env role form w f parts →
    SoundTree asked env role (node form w f l parts)
built asked env role form w f l parts e h t = (
  built_parts form e asked (inside env form w) None parts h t.parts',
  (
    subst (λ z. NoFault asked z) (sym (looked_seen env role form w f l parts e h)) t.node',
    subst (λ z. ListedAt asked z form w) (sym (visible_same env form w f l parts e h)) t.listed,
  ),
)

-- ---- the faults at an expression

declared_never : (form : Form) → is_expression form ≡ true → (n : Looked) → declared_twice n form ≡ false
declared_never forms.DeclaratorNode e n = absurd (false≢true e)
declared_never forms.ParamNode e n = absurd (false≢true e)
declared_never forms.FunctionNode e n = absurd (false≢true e)
declared_never _ e n = refl

outside_never : (form : Form) → is_expression form ≡ true → (n : Looked) → outside_type n form ≡ false
outside_never forms.TypeNode e n = absurd (false≢true e)
outside_never _ e n = refl

local_never : (form : Form) → is_expression form ≡ true → (n : Looked) → local_misplaced n form ≡ false
local_never forms.DeclaratorNode e n = absurd (false≢true e)
local_never _ e n = refl

program_never : (form : Form) → is_expression form ≡ true → (n : Looked) → program_variable n form ≡ false
program_never forms.DeclaratorNode e n = absurd (false≢true e)
program_never _ e n = refl

kernel_never : (form : Form) → is_expression form ≡ true → (n : Looked) → kernel_signature n form ≡ false
kernel_never forms.ParamNode e n = absurd (false≢true e)
kernel_never forms.FunctionNode e n = absurd (false≢true e)
kernel_never _ e n = refl

length_never : (form : Form) → is_expression form ≡ true → (n : Looked) → array_length n form ≡ false
length_never forms.DeclaratorNode e n = absurd (false≢true e)
length_never forms.AttributeNode e n = absurd (false≢true e)
length_never _ e n = refl

misplaced_never : (form : Form) → is_expression form ≡ true → (n : Looked) → misplaced n form ≡ false
misplaced_never forms.BreakNode e n = absurd (false≢true e)
misplaced_never forms.ContinueNode e n = absurd (false≢true e)
misplaced_never forms.CaseNode e n = absurd (false≢true e)
misplaced_never forms.DefaultNode e n = absurd (false≢true e)
misplaced_never _ e n = refl

case_never : (form : Form) → is_expression form ≡ true → (n : Looked) → case_value n form ≡ false
case_never forms.CaseNode e n = absurd (false≢true e)
case_never forms.DefaultNode e n = absurd (false≢true e)
case_never _ e n = refl

return_never : (form : Form) → is_expression form ≡ true → (n : Looked) → return_fit n form ≡ false
return_never forms.ReturnNode e n = absurd (false≢true e)
return_never _ e n = refl

kernels_never : (form : Form) → is_expression form ≡ true → (asked : Asked) (n : Looked) →
    no_such_kernel asked n form ≡ false
kernels_never forms.UnitNode e asked n = absurd (false≢true e)
kernels_never _ e asked n = refl

prototype_never : (form : Form) → is_expression form ≡ true → (asked : Asked) (n : Looked) →
    prototype_match asked n form ≡ false
prototype_never forms.PrototypeNode e asked n = absurd (false≢true e)
prototype_never _ e asked n = refl

-- the conditions that can stand at an expression
pub record Fine (asked : Asked) (n : Looked) : Type 0 where
  pub known : unknown_name n n.form ≡ false
  pub fit : misfits n n.form ≡ false
  pub tested : tested_misfits n ≡ false
  pub counted : miscounted n n.form ≡ false
  pub passed : mispassed n n.form ≡ false
  pub assignable : of_target n unassignable n.form ≡ false
  pub written : of_target n is_constant_memory n.form ≡ false
  pub ends : recursion asked n n.form ≡ false
  pub rooted : pointer_root n n.form ≡ false
  pub flagged : barrier_flags n n.form ≡ false

pub no_fault : (asked : Asked) (n : Looked) → is_expression n.form ≡ true → Fine asked n → NoFault asked n
no_fault asked n e h faults.UnknownName = h.known
no_fault asked n e h faults.DeclaredTwice = declared_never n.form e n
no_fault asked n e h faults.OperandTypes = rw h.fit h.tested
no_fault asked n e h faults.ArgumentCount = h.counted
no_fault asked n e h faults.ArgumentType = h.passed
no_fault asked n e h faults.NotAssignable = h.assignable
no_fault asked n e h faults.ConstantWritten = h.written
no_fault asked n e h faults.OutsideType = outside_never n.form e n
no_fault asked n e h faults.LocalMisplaced = local_never n.form e n
no_fault asked n e h faults.ProgramVariable = program_never n.form e n
no_fault asked n e h faults.KernelSignature = kernel_never n.form e n
no_fault asked n e h faults.Recursion = h.ends
no_fault asked n e h faults.PointerRoot = h.rooted
no_fault asked n e h faults.ArrayLength = length_never n.form e n
no_fault asked n e h faults.Misplaced = misplaced_never n.form e n
no_fault asked n e h faults.CaseValue = case_never n.form e n
no_fault asked n e h faults.ReturnFit = return_never n.form e n
no_fault asked n e h faults.BarrierFlags = h.flagged
no_fault asked n e h faults.KernelTooLarge = refl
no_fault asked n e h faults.PrivateMemory = refl
no_fault asked n e h faults.BarriersTooDeep = refl
no_fault asked n e h faults.NoSuchKernel = kernels_never n.form e asked n
no_fault asked n e h faults.LocalMemory = refl
no_fault asked n e h faults.PrototypeMatch = prototype_never n.form e asked n

neither : (a b : Bool) → (a || b) ≡ false → (a ≡ false) × (b ≡ false)
neither true b h = absurd (false≢true (sym h))
neither false b h = (refl, h)

pub fine : (asked : Asked) (n : Looked) → NoFault asked n → Fine asked n
fine asked n h = let t = neither (misfits n n.form) (tested_misfits n) (h faults.OperandTypes) in record {
  known = h faults.UnknownName;
  fit = t.0;
  tested = t.1;
  counted = h faults.ArgumentCount;
  passed = h faults.ArgumentType;
  assignable = h faults.NotAssignable;
  written = h faults.ConstantWritten;
  ends = h faults.Recursion;
  rooted = h faults.PointerRoot;
  flagged = h faults.BarrierFlags;
}

-- ---- an expression of which no node is at fault, with its kind

pub record Good (asked : Asked) (env : Env) (role : Role) (t : Syntax) (k : Kind) : Type 0 where
  pub made : OfExpressions t
  pub sound : SoundTree asked env role t
  pub kind : kind_of env t ≡ Some k

pub good : (asked : Asked) (env : Env) (role : Role) (form : Form) (w : List ℕ) (f l : ℕ) (parts : Forest)
    (ks : List (Option Kind)) (k : Kind) → is_expression form ≡ true → AreOperands parts →
    SoundHere asked (inside env form w) parts → kinds_here (inside env form w) parts ≡ ks → ListedAt asked env form w →
    Fine asked (seen env role form w f parts ks) → kind_step env form w parts ks ≡ Some k →
    Good asked env role (node form w f l parts) k
good asked env role form w f l parts ks k e h s ke li n g = record {
  made = (e, h);
  sound = built asked env role form w f l parts e h (record {
    parts' = s;
    node' = subst (λ z. NoFault asked (seen env role form w f parts z)) (sym ke)
        (no_fault asked (seen env role form w f parts ks) e n);
    listed = li;
  });
  kind = kind_here env form w f l parts e h ∙ ap (λ z. kind_step env form w parts z) ke ∙ g;
}
