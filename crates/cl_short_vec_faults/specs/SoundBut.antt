-- Trees in which no node is at fault, but perhaps by the length of an array.
use Rattle.std.specs.Prelude.{◌≡◌, Bool, true, false, None, Some}
use Rattle.cl_tree.specs.declared.tree.Form.{Form}
use Rattle.cl_tree.specs.Syntax.{Syntax, node, Forest, none, more, last_of}
use Rattle.cl_meaning.specs.declared.fault.Fault.{Fault}
use Rattle.cl_meaning.specs.declared.fault.Fault.TheVariants as faults
use Rattle.cl_meaning.specs.declared.kind.Role.{Role}
use Rattle.cl_meaning.specs.Environment.{Env}
use Rattle.cl_meaning.specs.Visible.{Node, Before, is_front, role_of, inside, later, behind, kind_of}
use Rattle.cl_meaning.specs.Faults.{Asked, at_fault, looked}
use Rattle.cl_check_sound.specs.Sound.{Listed}

-- the numbers that depend on the size of what stands for a unit: of the length of an array, and of a whole kernel
abbrev pub is_of_size : Fault → Bool
is_of_size faults.ArrayLength = true
is_of_size faults.KernelTooLarge = true
is_of_size faults.PrivateMemory = true
is_of_size faults.LocalMemory = true
is_of_size fault = false

-- no other fault stands at the node
abbrev pub SoundAt : Asked → Node → Type 0
SoundAt asked n = (k : Fault) → is_of_size k ≡ false → at_fault asked (looked n) k ≡ false

abbrev mutual
  pub SoundBut : Asked → Env → Role → Syntax → Type 0
  SoundBut asked env role (node form w f l parts) = AllSoundBut asked (inside env form w) form None parts ×
      (SoundAt asked (record { visible = env; role = role; tree = node form w f l parts }) ×
      Listed asked (record { visible = env; role = role; tree = node form w f l parts }))

  pub AllSoundBut : Asked → Env → Form → Before → Forest → Type 0
  AllSoundBut asked env form b none = Unit {0}
  AllSoundBut asked env form b (more p ps) = SoundBut asked env (role_of form b p) p ×
      AllSoundBut asked (later (behind env p) form (is_front b) p (kind_of env p)) form (Some (last_of p)) ps
