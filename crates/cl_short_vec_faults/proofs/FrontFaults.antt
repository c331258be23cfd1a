-- Which faults can stand at a function, at a prototype, at what stands in front of a block, and at the unit.
use Rattle.std.proofs.Common.{◌≡◌, ℕ, List, Bool, true, false, refl, sym}
use Rattle.std.proofs.lemmas.Bool.{false≢true}
use Rattle.cl_tree.specs.declared.tree.Form.{Form}
use Rattle.cl_tree.specs.declared.tree.Form.TheVariants as forms
use Rattle.cl_tree.specs.Syntax.{node, Forest}
use Rattle.cl_meaning.specs.declared.fault.Fault.{Fault}
use Rattle.cl_meaning.specs.declared.fault.Fault.TheVariants as faults
use Rattle.cl_meaning.specs.declared.kind.Kind.{Kind}
use Rattle.cl_meaning.specs.declared.kind.Role.TheVariants as roles
use Rattle.cl_meaning.specs.Environment.{Env}
use Rattle.cl_meaning.specs.Kinds.{is_constant_memory}
use Rattle.cl_meaning.specs.Visible.{inside, kinds_of, visible_at}
use Rattle.cl_meaning.specs.Faults.{Asked, Looked, Sound, at_fault, unknown_name, declared_twice, misfits}
use Rattle.cl_meaning.specs.Faults.{tested_misfits, miscounted, mispassed, of_target, unassignable, outside_type}
use Rattle.cl_meaning.specs.Faults.{local_misplaced, program_variable, kernel_signature, recursion, pointer_root}
use Rattle.cl_meaning.specs.Faults.{misplaced, case_value, return_fit, barrier_flags, no_such_kernel, prototype_match}
use Rattle.cl_check_sound.specs.Sound.{ListedAt}
use Rattle.cl_short_vec_faults.specs.SoundBut.{is_of_size}
use Rattle.cl_short_vec_faults.proofs.SoundNodes.{ButNode}

-- the productions of functions, of what stands in front of their blocks, and of blocks and units
abbrev pub is_frame : Form → Bool
is_frame forms.UnitNode = true
is_frame forms.FunctionNode = true
is_frame forms.PrototypeNode = true
is_frame forms.HeadNode = true
is_frame forms.AttributeNode = true
is_frame forms.ResultNode = true
is_frame forms.TypeNode = true
is_frame forms.SpaceNode = true
is_frame forms.ParamsNode = true
is_frame forms.ParamNode = true
is_frame forms.StarNode = true
is_frame forms.BlockNode = true
is_frame form = false

-- ---- the faults that cannot stand there

unknown_never : (form : Form) → is_frame form ≡ true → (n : Looked) → unknown_name n form ≡ false
unknown_never forms.VariableNode e n = absurd (false≢true e)
unknown_never forms.CallNode e n = absurd (false≢true e)
unknown_never _ e n = refl

fit_always : (form : Form) → is_frame form ≡ true → (n : Looked) → misfits n form ≡ false
unfolding misfits
fit_always forms.UnitNode e n = refl
fit_always forms.FunctionNode e n = refl
fit_always forms.PrototypeNode e n = refl
fit_always forms.HeadNode e n = refl
fit_always forms.AttributeNode e n = refl
fit_always forms.ResultNode e n = refl
fit_always forms.TypeNode e n = refl
fit_always forms.SpaceNode e n = refl
fit_always forms.ParamsNode e n = refl
fit_always forms.ParamNode e n = refl
fit_always forms.StarNode e n = refl
fit_always forms.BlockNode e n = refl
fit_always _ e n = absurd (false≢true e)

counted_always : (form : Form) → is_frame form ≡ true → (n : Looked) → miscounted n form ≡ false
counted_always forms.CallNode e n = absurd (false≢true e)
counted_always _ e n = refl

passed_always : (form : Form) → is_frame form ≡ true → (n : Looked) → mispassed n form ≡ false
passed_always forms.CallNode e n = absurd (false≢true e)
passed_always _ e n = refl

target_never : (form : Form) → is_frame form ≡ true → (n : Looked) (test : Kind → Bool) → of_target n test form ≡ false
target_never forms.AssignNode e n test = absurd (false≢true e)
target_never forms.UnaryNode e n test = absurd (false≢true e)
target_never forms.PostfixNode e n test = absurd (false≢true e)
target_never _ e n test = refl

local_never : (form : Form) → is_frame form ≡ true → (n : Looked) → local_misplaced n form ≡ false
local_never forms.DeclaratorNode e n = absurd (false≢true e)
local_never _ e n = refl

program_never : (form : Form) → is_frame form ≡ true → (n : Looked) → program_variable n form ≡ false
program_never forms.DeclaratorNode e n = absurd (false≢true e)
program_never _ e n = refl

recursion_never : (form : Form) → is_frame form ≡ true → (asked : Asked) (n : Looked) → recursion asked n form ≡ false
recursion_never forms.CallNode e asked n = absurd (false≢true e)
recursion_never _ e asked n = refl

root_never : (form : Form) → is_frame form ≡ true → (n : Looked) → pointer_root n form ≡ false
root_never forms.DeclaratorNode e n = absurd (false≢true e)
root_never forms.AssignNode e n = absurd (false≢true e)
root_never _ e n = refl

misplaced_never : (form : Form) → is_frame form ≡ true → (n : Looked) → misplaced n form ≡ false
misplaced_never forms.BreakNode e n = absurd (false≢true e)
misplaced_never forms.ContinueNode e n = absurd (false≢true e)
misplaced_never forms.CaseNode e n = absurd (false≢true e)
misplaced_never forms.DefaultNode e n = absurd (false≢true e)
misplaced_never _ e n = refl

case_never : (form : Form) → is_frame form ≡ true → (n : Looked) → case_value n form ≡ false
case_never forms.CaseNode e n = absurd (false≢true e)
case_never forms.DefaultNode e n = absurd (false≢true e)
case_never _ e n = refl

return_never : (form : Form) → is_frame form ≡ true → (n : Looked) → return_fit n form ≡ false
return_never forms.ReturnNode e n = absurd (false≢true e)
return_never _ e n = refl

flags_never : (form : Form) → is_frame form ≡ true → (n : Looked) → barrier_flags n form ≡ false
flags_never forms.CallNode e n = absurd (false≢true e)
flags_never _ e n = refl

listed_never : (form : Form) → is_frame form ≡ true → (asked : Asked) (env : Env) (w : List ℕ) →
    ListedAt asked env form w
listed_never forms.CallNode e asked env w = absurd (false≢true e)
listed_never _ e asked env w = tt

-- ---- those that can

pub record Frame (asked : Asked) (n : Looked) : Type 0 where
  pub once : declared_twice n n.form ≡ false
  pub inside' : outside_type n n.form ≡ false
  pub kernel : kernel_signature n n.form ≡ false
  pub there : no_such_kernel asked n n.form ≡ false
  pub match' : prototype_match asked n n.form ≡ false

frame_fault : (asked : Asked) (n : Looked) → is_frame n.form ≡ true → tested_misfits n ≡ false → Frame asked n →
    (k : Fault) → is_of_size k ≡ false → at_fault asked n k ≡ false
frame_fault asked n e t h faults.UnknownName z = unknown_never n.form e n
frame_fault asked n e t h faults.DeclaredTwice z = h.once
frame_fault asked n e t h faults.OperandTypes z = rw (fit_always n.form e n) t
frame_fault asked n e t h faults.ArgumentCount z = counted_always n.form e n
frame_fault asked n e t h faults.ArgumentType z = passed_always n.form e n
frame_fault asked n e t h faults.NotAssignable z = target_never n.form e n unassignable
frame_fault asked n e t h faults.ConstantWritten z = target_never n.form e n is_constant_memory
frame_fault asked n e t h faults.OutsideType z = h.inside'
frame_fault asked n e t h faults.LocalMisplaced z = local_never n.form e n
frame_fault asked n e t h faults.ProgramVariable z = program_never n.form e n
frame_fault asked n e t h faults.KernelSignature z = h.kernel
frame_fault asked n e t h faults.Recursion z = recursion_never n.form e asked n
frame_fault asked n e t h faults.PointerRoot z = root_never n.form e n
frame_fault asked n e t h faults.ArrayLength z = absurd (false≢true (sym z))
frame_fault asked n e t h faults.Misplaced z = misplaced_never n.form e n
frame_fault asked n e t h faults.CaseValue z = case_never n.form e n
frame_fault asked n e t h faults.ReturnFit z = return_never n.form e n
frame_fault asked n e t h faults.BarrierFlags z = flags_never n.form e n
frame_fault asked n e t h faults.KernelTooLarge z = absurd (false≢true (sym z))
frame_fault asked n e t h faults.PrivateMemory z = absurd (false≢true (sym z))
frame_fault asked n e t h faults.BarriersTooDeep z = refl
frame_fault asked n e t h faults.NoSuchKernel z = h.there
frame_fault asked n e t h faults.LocalMemory z = absurd (false≢true (sym z))
frame_fault asked n e t h faults.PrototypeMatch z = h.match'

-- a node that is looked at
abbrev pub seen_at : Env → Form → List ℕ → (first last : ℕ) → Forest → Looked
seen_at env form w f l parts = record {
  env = visible_at env (node form w f l parts);
  role = roles.Other;
  form = form;
  word = w;
  first = f;
  parts = parts;
  kinds' = kinds_of (inside env form w) form true parts;
}

pub frame_but : (asked : Asked) (env : Env) (form : Form) (w : List ℕ) (f l : ℕ) (parts : Forest) →
    is_frame form ≡ true → Frame asked (seen_at env form w f l parts) →
    ButNode asked (record { visible = env; role = roles.Other; tree = node form w f l parts })
frame_but asked env form w f l parts e h = (
  frame_fault asked (seen_at env form w f l parts) e refl h,
  listed_never form e asked (visible_at env (node form w f l parts)) w,
)

pub sound_frame : (asked : Asked) (env : Env) (form : Form) (w : List ℕ) (f l : ℕ) (parts : Forest) →
    Sound asked (record { visible = env; role = roles.Other; tree = node form w f l parts }) →
    Frame asked (seen_at env form w f l parts)
sound_frame asked env form w f l parts s = record {
  once = s faults.DeclaredTwice;
  inside' = s faults.OutsideType;
  kernel = s faults.KernelSignature;
  there = s faults.NoSuchKernel;
  match' = s faults.PrototypeMatch;
}

-- ---- nodes at which nothing depends on what is visible

abbrev pub is_still : Form → Bool
is_still forms.HeadNode = true
is_still forms.AttributeNode = true
is_still forms.ResultNode = true
is_still forms.TypeNode = true
is_still forms.SpaceNode = true
is_still forms.ParamsNode = true
is_still forms.StarNode = true
is_still forms.BlockNode = true
is_still form = false

still_frame : (form : Form) → is_still form ≡ true → is_frame form ≡ true
still_frame forms.HeadNode e = refl
still_frame forms.AttributeNode e = refl
still_frame forms.ResultNode e = refl
still_frame forms.TypeNode e = refl
still_frame forms.SpaceNode e = refl
still_frame forms.ParamsNode e = refl
still_frame forms.StarNode e = refl
still_frame forms.BlockNode e = refl
still_frame _ e = absurd (false≢true e)

-- nothing is at fault at a node with the same own words
pub still_but : (asked : Asked) (env env' : Env) (form : Form) (w : List ℕ) (f l f' l' : ℕ) (parts parts' : Forest) →
    is_still form ≡ true → Sound asked (record { visible = env; role = roles.Other; tree = node form w f l parts }) →
    ButNode asked (record { visible = env'; role = roles.Other; tree = node form w f' l' parts' })
still_but asked env env' form w f l f' l' parts parts' e s =
    frame_but asked env' form w f' l' parts' (still_frame form e)
    (by form e (sound_frame asked env form w f l parts s))
  where
    by : (form : Form) → is_still form ≡ true → Frame asked (seen_at env form w f l parts) →
        Frame asked (seen_at env' form w f' l' parts')
    by forms.HeadNode e h = record { once = refl; inside' = refl; kernel = refl; there = refl; match' = refl }
    by forms.AttributeNode e h = record { once = refl; inside' = refl; kernel = refl; there = refl; match' = refl }
    by forms.ResultNode e h = record { once = refl; inside' = refl; kernel = refl; there = refl; match' = refl }
    by forms.TypeNode e h = record { once = refl; inside' = h.inside'; kernel = refl; there = refl; match' = refl }
    by forms.SpaceNode e h = record { once = refl; inside' = refl; kernel = refl; there = refl; match' = refl }
    by forms.ParamsNode e h = record { once = refl; inside' = refl; kernel = refl; there = refl; match' = refl }
    by forms.StarNode e h = record { once = refl; inside' = refl; kernel = refl; there = refl; match' = refl }
    by forms.BlockNode e h = record { once = refl; inside' = refl; kernel = refl; there = refl; match' = refl }
    by _ e h = absurd (false≢true e)
