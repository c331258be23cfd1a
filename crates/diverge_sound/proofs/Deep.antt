-- An item of a launch in a function, with calls that nest less deep than a depth; and the ways of an item, step by
-- step.
use Rattle.std.specs.Prelude.{◌≡◌, ℕ, zero, suc, ℤ, pos, List, Option, Some, slice_get}
use Rattle.wg_num.specs.declared.types.IntType.{IntType}
use Rattle.wg_num.specs.Bytes.{size_of, value_of_bytes}
use Rattle.work_items.specs.Items.{Next, Ends, Waits, Goes, Begins, Loads, Stores}
use Rattle.cl_model.specs.declared.program.Root.{Root}
use Rattle.cl_model.specs.Tree.{Block, Program}
use Rattle.cl_model.specs.Sizes.{Launch, answer_of}
use Rattle.cl_model.specs.Calls.{function_at}
use Rattle.cl_model.specs.Objects.{object_of}
use Rattle.cl_model.specs.Task.{Point, Frame, Item}
use Rattle.cl_model.specs.Steps.{nth, item_next}
use Rattle.cl_model.specs.Meaning.{MayBeTold}
use Rattle.diverge_sound.proofs.Ran.{Held, Stand, How, Normal, Broke, Continued, Returned, Who, Exec, Comes}

-- what a function holds as it begins, and what a call gives whose body ends so
abbrev pub first_held : Frame → Held
first_held top = record { variables = top.variables; answer = pos 0 }

abbrev pub given : How → Held → ℤ
given Normal s = pos 0
given Broke s = pos 0
given Continued s = pos 0
given Returned s = s.answer

-- a call, with these roots and arguments, from a function that is under way begins with this frame
pub record IsEntered (program : Program) (launch : Launch) (number : ℕ) (frame : Frame) (g : ℕ)
    (roots : List (Option Root)) (args : List ℤ) (top : Frame) : Type 0 where
  pub function : top.function ≡ g
  pub variables : (x : ℕ) → top.variables x ≡ nth args x
  pub objects : (n : ℕ) (root : Root) → slice_get roots n ≡ Some (Some root) →
      top.objects n ≡ object_of program launch number frame.path frame.objects root

module _ (program : Program) (launch : Launch) (buffers : List (List ℕ)) (number : ℕ) where
  -- a load may give this value
  abbrev pub MayGive : Frame → Root → IntType → ℤ → ℤ → Type 0
  MayGive frame root element i x =
      (bytes : List ℕ) × MayBeTold program launch buffers
      (record {
        object = object_of program launch number frame.path frame.objects root;
        size = size_of element;
        index = i;
      }) bytes × (x ≡ value_of_bytes element bytes)

  abbrev pub who_of : Frame → (ℕ → ℕ → List (Option Root) → List ℤ → ℤ → Type 0) →
      (ℕ → ℕ → List (Option Root) → List ℤ → Point → Stand → Type 0) → Who
  who_of frame calls comes =
      record { frame = frame; gives = MayGive frame; asks = answer_of launch number; calls = calls; comes = comes }

  -- calls from a function that is under way, and points in them
  abbrev mutual
    pub CallsAt : ℕ → Frame → ℕ → ℕ → List (Option Root) → List ℤ → ℤ → Type 0
    CallsAt zero frame site g roots args x = ⊥
    CallsAt (suc d) frame site g roots args x =
        (top : Frame) × (how : How) × (end : Held) × IsEntered program launch number frame g roots args top
        × Exec (who_of top (CallsAt d top) (PointsAt d top)) (Block (function_at program g).body) (first_held top) how
        end × (x ≡ given how end)

    pub PointsAt : ℕ → Frame → ℕ → ℕ → List (Option Root) → List ℤ → Point → Stand → Type 0
    PointsAt zero frame site g roots args p inner = ⊥
    PointsAt (suc d) frame site g roots args p inner =
        (top : Frame) × IsEntered program launch number frame g roots args top ×
        Comes (who_of top (CallsAt d top) (PointsAt d top)) (Block (function_at program g).body) (first_held top)
        p inner

  abbrev pub who : ℕ → Frame → Who
  who d frame = who_of frame (CallsAt d frame) (PointsAt d frame)

-- the step leads there, where a load from constant memory gives what the launch starts with
abbrev pub Leads : Program → Launch → List (List ℕ) → Next Item → Item → Type 0
Leads program launch buffers Ends to = ⊥
Leads program launch buffers (Waits site after) to = to ≡ after
Leads program launch buffers (Goes after) to = to ≡ after
Leads program launch buffers (Begins after) to = to ≡ after
Leads program launch buffers (Loads site access after) to =
    (bytes : List ℕ) × MayBeTold program launch buffers access bytes × (to ≡ after bytes)
Leads program launch buffers (Stores site object index bytes after) to = to ≡ after

-- so many steps
abbrev pub Past : Program → Launch → List (List ℕ) → ℕ → Item → Item → Type 0
Past program launch buffers zero from to = to ≡ from
Past program launch buffers (suc n) from to =
    (mid : Item) × Leads program launch buffers (item_next program launch from) mid ×
    Past program launch buffers n mid to
