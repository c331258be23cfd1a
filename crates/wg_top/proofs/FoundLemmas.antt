-- How far launches that were read come by their files: a condition stands on them, a buffer's file is not there, a
-- launch is stopped, or all are done.
use Rattle.std.proofs.Common.{◌≡◌, ℕ, List, Option, Some, None, refl, sym, ◌∙◌, subst}
use Rattle.wg_outside.specs.Files.{FileMap}
use Rattle.buffer_io.specs.Loads.{LacksOneFile}
use Rattle.launch_file.specs.Binding.{loads_of, lengths_of}
use Rattle.launch_file.specs.Texts.{Text}
use Rattle.launch_file.specs.declared.refusal.Refusal.{Refusal}
use Rattle.lane_code.specs.Program.{Plain}
use Rattle.wg_top.specs.declared.RunError.{RunError}
use Rattle.wg_top.specs.Causes.{BuffersLoaded}
use Rattle.wg_top.specs.Launches.{launches_in}
use Rattle.wg_top.specs.CompiledLaunches.{LaunchesRan, EndsSo}
use Rattle.wg_top.specs.Lines.{status_of}
use Rattle.wg_top.proofs.CompleteLemmas.{none_refused}
use Rattle.wg_top.proofs.ExactLemmas.{lacks_started, same_before, one_refusal}

-- by the refusal of the launches, and by their programs
pub data Found (fs : FileMap) (text : Text) (refusal : Option Refusal) (ps : List Plain) : Type 0 where
  unbound : (first : Refusal) → refusal ≡ Some first → Found fs text refusal ps
  no_buffer : refusal ≡ None → LacksOneFile (Some fs) (loads_of text.buffers) → Found fs text refusal ps
  stopped : (e : RunError) (before : List (List ℕ)) → refusal ≡ None → BuffersLoaded (Some fs) text before →
      EndsSo text.several ps (launches_in text) before e → Found fs text refusal ps
  fits : (before after : List (List ℕ)) → refusal ≡ None → BuffersLoaded (Some fs) text before →
      LaunchesRan ps (launches_in text) before after → Found fs text refusal ps

module _ (fs : FileMap) (text : Text) (refusal : Option Refusal) (ps : List Plain) where
  -- the status that it leads to
  unfoldable pub status_at : Found fs text refusal ps → ℕ
  status_at (unbound first is) = 4
  status_at (no_buffer none lacks) = 9
  status_at (stopped e before none loaded ends) = status_of e
  status_at (fits before after none loaded ran) = 0

  both : (first : Refusal) → refusal ≡ Some first → refusal ≡ None → ⊥
  both first a b = let e : Some first ≡ None = sym a ∙ b in let never : ⊥ = cc e in never

  buffer : (before : List (List ℕ)) → LacksOneFile (Some fs) (loads_of text.buffers) →
      BuffersLoaded (Some fs) text before → ⊥
  buffer before lacks started =
      lacks_started fs (lengths_of text.buffers) (loads_of text.buffers) before lacks.name started lacks.is_load
      lacks.lacks

  again : (e : RunError) (before other : List (List ℕ)) → BuffersLoaded (Some fs) text before →
      BuffersLoaded (Some fs) text other → EndsSo text.several ps (launches_in text) before e →
      EndsSo text.several ps (launches_in text) other e
  again e before other a b ends =
      subst (λ (bs : List (List ℕ)). EndsSo text.several ps (launches_in text) bs e)
      (same_before fs (lengths_of text.buffers) (loads_of text.buffers) before other a b) ends

  ran : (e : RunError) (before other after : List (List ℕ)) → BuffersLoaded (Some fs) text before →
      BuffersLoaded (Some fs) text other → EndsSo text.several ps (launches_in text) before e →
      LaunchesRan ps (launches_in text) other after → ⊥
  ran e before other after a b ends done =
      none_refused text.several ps (launches_in text) other after e done (again e before other a b ends)

  -- two ways to come as far have one status
  pub found_agree : (x y : Found fs text refusal ps) → status_at x ≡ status_at y
  unfolding status_at
  found_agree (unbound f a) (unbound g b) = refl
  found_agree (unbound f a) (no_buffer b l) = absurd (both f a b)
  found_agree (unbound f a) (stopped e x b l s) = absurd (both f a b)
  found_agree (unbound f a) (fits x y b l r) = absurd (both f a b)
  found_agree (no_buffer a l) (unbound g b) = absurd (both g b a)
  found_agree (no_buffer a l) (no_buffer b m) = refl
  found_agree (no_buffer a l) (stopped e x b m s) = absurd (buffer x l m)
  found_agree (no_buffer a l) (fits x y b m r) = absurd (buffer x l m)
  found_agree (stopped e x a l s) (unbound g b) = absurd (both g b a)
  found_agree (stopped e x a l s) (no_buffer b m) = absurd (buffer x m l)
  found_agree (stopped e x a l s) (stopped d y b m t) =
      one_refusal text.several ps (launches_in text) y e d (again e x y l m s) t
  found_agree (stopped e x a l s) (fits y z b m r) = absurd (ran e x y z l m s r)
  found_agree (fits x y a l r) (unbound g b) = absurd (both g b a)
  found_agree (fits x y a l r) (no_buffer b m) = absurd (buffer x m l)
  found_agree (fits x y a l r) (stopped e z b m s) = absurd (ran e z x y m l s r)
  found_agree (fits x y a l r) (fits z w b m s) = refl
