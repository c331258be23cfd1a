-- Each list of lines is sound, where the code of each access does what the items do.
use Rattle.std.proofs.Common.{◌≡◌, ℕ, List, [], ◌∷◌, Some, refl, sym, ap, arith}
use Rattle.std.specs.Prelude.{slice_get, nat_eq, ◌&&◌, ◌||◌}
use Rattle.std.specs.Prelude.{Bool as Test, true, false}
use Rattle.std.proofs.lemmas.Bool.{true≢false, and_parts, or_right}
use Rattle.wg_num.specs.declared.types.IntType.{IntType}
use Rattle.cl_model.specs.declared.program.Root.{Root}
use Rattle.cl_model.specs.Sizes.{Launch}
use Rattle.kir.specs.declared.line.Atom.{Atom}
use Rattle.kir.specs.Tree.{Lines, NoLine, SetThen, LoadThen, StoreThen, ClearThen, IfThen, LoopThen, BarrierThen}
use Rattle.kir.specs.Tree.{Kernel}
use Rattle.kir.specs.Places.{Tasks}
use Rattle.kir.specs.Live.{reads, some_reads}
use Rattle.kir.specs.Fits.{lines_fit, atom_type, cell_takes}
use Rattle.kir.specs.Steps.{Item}
use Rattle.lane_code.specs.declared.step.Step.{Step}
use Rattle.lane_code.specs.declared.code.Counts.{Counts}
use Rattle.lane_code.specs.Registers.{Registers}
use Rattle.lane_code.specs.Fits.{is_code}
use Rattle.lane_code.specs.Groups.{Group}
use Rattle.lane_code.specs.Meaning.{Ended}
use Rattle.group_moves.specs.Stages.{Stage}
use Rattle.mask_lower.specs.Atoms.{atoms_in}
use Rattle.mask_lower.specs.Following.{ChunkOf}
use Rattle.mask_lower.specs.Registers.{Frame}
use Rattle.mask_lower_correct.specs.Framed.{IsFramed}
use Rattle.mask_lower_correct.specs.Sim.{Ground, Closed}
use Rattle.mask_lower_correct.proofs.Soundness.{Sound, Accessing, whole_of, no_line_sound, set_sound, access_sound}
use Rattle.mask_lower_correct.proofs.Soundness.{barrier_sound}
use Rattle.mask_lower_correct.proofs.Branches.{if_sound}
use Rattle.mask_lower_correct.proofs.Loops.{loop_sound}

module _ (kernel : Kernel) (launch : Launch) (width : ℕ) (chunk : ChunkOf kernel launch width) (turns : ℕ)
    (w0 : Stage Item) (g0 : Group) (f : Frame) (counts : Counts) (r0 : Registers) (ground : Ground kernel launch w0)
    (atoms : List Atom) (framed : IsFramed kernel f atoms) (code : List Step) (valid : is_code counts code ≡ true)
    (Good : Ended → Type 0) (Sites : ℕ →
    Type 0) (Goal : Tasks) (closed : Closed kernel launch width chunk turns w0 Sites Goal Good)
    (accessing : Accessing kernel launch width chunk turns w0 g0 f counts r0 ground atoms framed code valid Good
    Sites Goal closed) where
  abbrev IsSound : Lines → Type 0
  IsSound =
      Sound kernel launch width chunk turns w0 g0 f counts r0 ground atoms framed code valid Good Sites Goal closed

  load_sound : (site to : ℕ) (element : IntType) (root : Root) (index : Atom) (rest : Lines) → IsSound rest →
      IsSound (LoadThen site to element root index rest)
  load_sound site to element root index rest sound =
      access_sound kernel launch width chunk turns w0 g0 f counts r0 ground atoms framed code valid Good Sites Goal
      closed (LoadThen site to element root index) _ (index ∷ []) (accessing.loads site to element root index)
      rest (λ m free p next. refl) (λ tail. refl) (λ at. refl)
      (λ next fit.
      let fits = and_parts (Rattle.kir.specs.Fits.is_site kernel site && Rattle.kir.specs.Fits.can_load kernel root
      element && Rattle.kir.specs.Fits.has_type Rattle.wg_num.specs.declared.types.IntType.TheVariants.Long
      (atom_type kernel index) && cell_takes kernel to (Some element)) (lines_fit kernel rest) fit.fits in (
        record {
          fits = ap (λ b. b && true) fits.0;
          names = λ c e. fit.names c (kept_names c (nat_eq c to) (reads c index) (some_reads c (atoms_in rest)) e);
          held = (tt, (fit.held.1.0, tt));
          sites = λ s h. absurd (omega arith);
        },
        record {
          fits = fits.1;
          names = λ c e.
              fit.names c (or_right (nat_eq c to) _ (or_right (reads c index) (some_reads c (atoms_in rest)) e));
          held = fit.held.1.1;
          sites = fit.sites;
        },
      ))
      sound
    where
      kept_names : (c : ℕ) (x y z : Test) → (x || (y || false)) ≡ true → (x || (y || z)) ≡ true
      kept_names c true y z e = refl
      kept_names c false true z e = refl
      kept_names c false false z e = absurd (true≢false (sym e))

  store_sound : (site : ℕ) (element : IntType) (root : Root) (index from : Atom) (rest : Lines) → IsSound rest →
      IsSound (StoreThen site element root index from rest)
  store_sound site element root index from rest sound =
      access_sound kernel launch width chunk turns w0 g0 f counts r0 ground atoms framed code valid Good Sites Goal
      closed (StoreThen site element root index from) _ (index ∷ from ∷ [])
      (accessing.stores site element root index from) rest (λ m free p next. refl) (λ tail. refl) (λ at. refl)
      (λ next fit.
      let fits = and_parts (Rattle.kir.specs.Fits.is_site kernel site && Rattle.kir.specs.Fits.can_store kernel root
      element && Rattle.kir.specs.Fits.has_type Rattle.wg_num.specs.declared.types.IntType.TheVariants.Long
      (atom_type kernel index) && Rattle.kir.specs.Fits.has_type element (atom_type kernel from))
      (lines_fit kernel rest) fit.fits in (
        record {
          fits = ap (λ b. b && true) fits.0;
          names = λ c e. fit.names c (kept_names c (reads c index) (reads c from) (some_reads c (atoms_in rest)) e);
          held = (fit.held.0, (fit.held.1.0, tt));
          sites = λ s h. absurd (omega arith);
        },
        record {
          fits = fits.1;
          names = λ c e.
              fit.names c (or_right (reads c index) _ (or_right (reads c from) (some_reads c (atoms_in rest)) e));
          held = fit.held.1.1;
          sites = fit.sites;
        },
      ))
      sound
    where
      kept_names : (c : ℕ) (x y z : Test) → (x || (y || false)) ≡ true → (x || (y || z)) ≡ true
      kept_names c true y z e = refl
      kept_names c false true z e = refl
      kept_names c false false z e = absurd (true≢false (sym e))

  clear_sound : (array : ℕ) (rest : Lines) → IsSound rest → IsSound (ClearThen array rest)
  clear_sound array rest sound =
      access_sound kernel launch width chunk turns w0 g0 f counts r0 ground atoms framed code valid Good Sites Goal
      closed (ClearThen array) _ [] (accessing.clears array) rest (λ m free p next. refl) (λ tail. refl)
      (λ at. refl)
      (λ next fit.
      let fits = and_parts (Rattle.kir.specs.Fits.is_private_array (slice_get kernel.arrays array))
      (lines_fit kernel rest) fit.fits in (
        record {
          fits = ap (λ b. b && true) fits.0;
          names = λ c e. absurd (true≢false (sym e));
          held = tt;
          sites = λ s h. absurd (omega arith);
        },
        record { fits = fits.1; names = fit.names; held = fit.held; sites = fit.sites },
      ))
      sound

  pub sound_of : (L : Lines) → IsSound L
  sound_of NoLine = no_line_sound kernel launch width chunk turns w0 g0 f counts r0 ground atoms framed code valid
      Good Sites Goal closed
  sound_of (SetThen to work rest) =
      set_sound kernel launch width chunk turns w0 g0 f counts r0 ground atoms framed code valid Good Sites Goal
      closed to work rest (sound_of rest)
  sound_of (LoadThen site to element root index rest) = load_sound site to element root index rest (sound_of rest)
  sound_of (StoreThen site element root index from rest) = store_sound site element root index from rest (sound_of rest)
  sound_of (ClearThen array rest) = clear_sound array rest (sound_of rest)
  sound_of (IfThen site test chosen other rest) =
      if_sound kernel launch width chunk turns w0 g0 f counts r0 ground atoms framed code valid Good Sites Goal closed
      site test chosen other rest (whole_of kernel launch width chunk turns w0 g0 f counts r0 ground atoms framed code
      valid Good Sites Goal closed chosen (sound_of chosen)) (whole_of kernel launch width chunk turns w0 g0 f
      counts r0 ground atoms framed code valid Good Sites Goal closed other (sound_of other)) (sound_of rest)
  sound_of (LoopThen site first test answer body rest) =
      loop_sound kernel launch width chunk turns w0 g0 f counts r0 ground atoms framed code valid Good Sites Goal
      closed site first test answer body rest (whole_of kernel launch width chunk turns w0 g0 f counts r0 ground atoms
      framed code valid Good Sites Goal closed test (sound_of test)) (whole_of kernel launch width chunk turns w0 g0
      f counts r0 ground atoms framed code valid Good Sites Goal closed body (sound_of body)) (sound_of rest)
  sound_of (BarrierThen site rest) =
      barrier_sound kernel launch width chunk turns w0 g0 f counts r0 ground atoms framed code valid Good Sites Goal
      closed site rest (sound_of rest)
