-- The ends of a launch file's group programs are outcomes of its launches.
use Rattle.std.proofs.Common.{◌≡◌, ℕ, zero, suc, ◌<◌, ◌≤◌, Bool, List, [], ◌∷◌, length, map, Option, Some}
use Rattle.std.proofs.Common.{refl, sym, ◌∙◌, ap, ap₂, subst, arith}
use Rattle.std.specs.Prelude.{All, sum, slice_get, slice_index_or}
use Rattle.std.proofs.Math.Nat.{mul-pos}
use Rattle.std.proofs.lemmas.Option.{get_or_from_slice_get}
use Rattle.wg_num.specs.declared.types.Place.{Place}
use Rattle.cl_model.specs.Tree.{Program}
use Rattle.cl_model.specs.Sizes.{Launch, product}
use Rattle.cl_model.specs.Valid.{IsValid}
use Rattle.cl_model.specs.Fitting.{DimensionFits, FitsProgram, FitBuffers}
use Rattle.cl_model.specs.Meaning.{EndsDone, EndsRange, EndsParted, EndsTurns}
use Rattle.cl_meaning.specs.Typed.{Unit'}
use Rattle.cl_meaning.specs.View.{unit_of}
use Rattle.cl_check_sound.specs.Erased.{program_of}
use Rattle.group_run.proofs.LengthLaws.{program_keeps}
use Rattle.kir.specs.Lowering.{IsLoweringOf}
use Rattle.lane_code.specs.declared.end.RunEnd.{RunEnd}
use Rattle.lane_code.specs.declared.end.RunEnd.TheVariants as run
use Rattle.lane_code.specs.Fits.{LaunchFits}
use Rattle.lane_code.specs.Listing.{listing_text}
use Rattle.lane_code.specs.Program.{Plain}
use Rattle.lane_code.specs.Run.{RunEnded}
use Rattle.lane_code.specs.View.{plain_of}
use Rattle.launch_file.specs.declared.text.BufferText.{BufferText}
use Rattle.launch_file.specs.Binding.{launch_in, launch_refusal, lengths_of}
use Rattle.launch_file.specs.Texts.{Text, Part}
use Rattle.mask_lower.specs.Layout.{HasSizes}
use Rattle.wg_compile.specs.declared.Compiled.{Compiled}
use Rattle.wg_top.specs.declared.RunError.{RunError}
use Rattle.wg_top.specs.declared.RunError.TheVariants as error
use Rattle.wg_compile.specs.Passes.{names_in, kernel_in, group_in, IsLike}
use Rattle.wg_top.specs.CompiledLaunches.{programs_in, launch_end, LaunchRan, LaunchesRan, EndsBehind, EndsSo}
use Rattle.wg_top.specs.CompiledLaunches.{site_place, start_place}
use Rattle.wg_top.specs.Units.{needs_in, first_refusal, or_later}
use Rattle.wg_compile.specs.Correct.{IsCompilation}
use Rattle.wg_compile.specs.Ends.{IsOutcome, EndsInOutcomes}
use Rattle.wg_top.specs.CompiledOutcomes.{IsMade, AreMade, HasGroupProgram, HaveGroupPrograms, RanInOutcomes}
use Rattle.wg_top.specs.CompiledOutcomes.{EndsInOutcome, StopsAsOutcome}
use Rattle.wg_top.specs.Outcomes.{models_in}
use Rattle.wg_top.specs.Programs.{Runs, programs_of, needs_refusal, HaveRoom}
use Rattle.wg_top.specs.CompiledShown.{code_shown}
use Rattle.wg_top.specs.Launches.{launches_in}
use Rattle.wg_top.proofs.MeaningLemmas.{AreLike, end_like}

-- ---- no size of a launch is 0

three_some : (a b c : ℕ) → 1 ≤ a → 1 ≤ b → 1 ≤ c → 0 < product (a ∷ b ∷ c ∷ [])
three_some a b c x y z = mul-pos (omega arith) (mul-pos (omega arith) (mul-pos (omega arith) (omega arith)))

pub has_sizes : (turns : ℕ) (buffers : List BufferText) (part : Part) →
    ((d : ℕ) → d < 3 → DimensionFits (launch_in turns buffers part) d) → HasSizes (launch_in turns buffers part)
has_sizes turns buffers part fits =
    let first = fits 0 (omega arith) in
    let second = fits 1 (omega arith) in
    let third = fits 2 (omega arith) in
    record {
      global = three_some _ _ _ first.some_global second.some_global third.some_global;
      local = three_some _ _ _ first.some_local second.some_local third.some_local;
    }

-- ---- what is known of the ends of a group program

-- on buffers of its lengths the launch ends in an outcome of the program, at the program's places, and the buffers
-- keep their lengths
record Promise (program : Program) (p : Plain) (launch : Launch) : Type 0 where
  sites : p.sites ≡ program.sites
  ends : (buffers : List (List ℕ)) → FitBuffers launch buffers →
      IsOutcome program launch buffers (launch_end p launch buffers).end (launch_end p launch buffers).buffers
  keeps : (buffers : List (List ℕ)) → map (λ (b : List ℕ). length b) (launch_end p launch buffers).buffers ≡
      map (λ (b : List ℕ). length b) buffers

-- the same of each launch
abbrev AllPromise : List Program → List Plain → List Launch → Type 0
AllPromise [] [] [] = Unit {0}
AllPromise (g ∷ gs) (p ∷ ps) (launch ∷ launches) = Promise g p launch × AllPromise gs ps launches
AllPromise _ _ _ = ⊥

ends_like : (program : Program) (q p : Plain) (launch : Launch) → IsLike q p → EndsInOutcomes program p →
    FitsProgram program launch → HasSizes launch → (buffers : List (List ℕ)) → FitBuffers launch buffers →
    IsOutcome program launch buffers (launch_end q launch buffers).end (launch_end q launch buffers).buffers
unfolding launch_end
ends_like program q p launch like ends fits sizes buffers fit =
    subst (λ (e : RunEnded). IsOutcome program launch buffers e.end e.buffers) (end_like q p like launch buffers)
    (ends launch fits sizes buffers fit)

keeps_lengths : (p : Plain) (launch : Launch) (buffers : List (List ℕ)) →
    map (λ (b : List ℕ). length b) (launch_end p launch buffers).buffers ≡ map (λ (b : List ℕ). length b) buffers
unfolding launch_end
keeps_lengths p launch buffers = program_keeps p launch buffers

-- the places of a unit's group program are those of the unit
places_are : (width : ℕ) (u : Unit') → IsLoweringOf (program_of u) (names_in u) (kernel_in u) →
    (group_in width u).sites ≡ (program_of u).sites
unfolding group_in
places_are width u lowered = lowered.parts.sites

-- ---- of the kernels of a call

-- the program of one is valid, and what is kept once is equal
pub made_of : (width : ℕ) (c : Compiled) → IsCompilation width c → IsValid (program_of (unit_of c.program)) →
    IsMade (unit_of c.program)
made_of width c passes valid =
    record { valid = valid; lowered = (passes.correct valid).lowered; once = (passes.correct valid).once }

-- its group program
pub compiled_to : (width : ℕ) (c : Compiled) → IsCompilation width c → IsValid (program_of (unit_of c.program)) →
    HasGroupProgram width (unit_of c.program)
compiled_to width c passes valid = record {
  group = plain_of c.group;
  like = passes.group;
  same_end = passes.same_end;
  lanes = passes.lanes;
  lanes_are = passes.lanes_are;
  correct = passes.correct valid;
}

-- which is the program that was made
pub compiled_group : (width : ℕ) (c : Compiled) (passes : IsCompilation width c)
    (valid : IsValid (program_of (unit_of c.program))) → (compiled_to width c passes valid).group ≡ plain_of c.group
unfolding compiled_to
compiled_group width c passes valid = refl

-- and its listing
pub code_text_of : (width : ℕ) (c : Compiled) (text : List ℕ) → IsCompilation width c →
    IsValid (program_of (unit_of c.program)) → text ≡ listing_text c.group.kernel (plain_of c.group) →
    code_shown width c.group.kernel (unit_of c.program) text
unfolding compiled_to
code_text_of width c text passes valid is = (compiled_to width c passes valid, is)

-- ---- what is run for units

-- what is bound and run is a group program of the unit, and asks of its launches what the unit's kernel asks
pub record IsRunFor (width : ℕ) (u : Unit') (r : Runs) : Type 0 where
  pub made : IsMade u
  pub group : HasGroupProgram width u
  pub program : r.program ≡ group.group
  pub needs : r.needs ≡ needs_in u

-- the same of each launch
abbrev pub AreRunsFor : (width : ℕ) → List Part → List Unit' → List Runs → Type 0
AreRunsFor width [] [] [] = Unit {0}
AreRunsFor width (part ∷ parts) (u ∷ units) (r ∷ rs) = IsRunFor width u r × AreRunsFor width parts units rs
AreRunsFor width _ _ _ = ⊥

module _ (width : ℕ) where
  -- what is kept once is equal
  pub are_made : (parts : List Part) (units : List Unit') (rs : List Runs) → AreRunsFor width parts units rs →
      AreMade units
  are_made [] [] [] all = tt
  are_made (part ∷ parts) (u ∷ units) (r ∷ rs) all = (all.0.made, are_made parts units rs all.1)
  are_made [] [] (r ∷ rs) all = absurd all
  are_made [] (u ∷ units) rs all = absurd all
  are_made (part ∷ parts) [] rs all = absurd all
  are_made (part ∷ parts) (u ∷ units) [] all = absurd all

  -- the group program of each
  pub have_programs : (parts : List Part) (units : List Unit') (rs : List Runs) → AreRunsFor width parts units rs →
      HaveGroupPrograms width parts units
  have_programs [] [] [] all = tt
  have_programs (part ∷ parts) (u ∷ units) (r ∷ rs) all = (all.0.group, have_programs parts units rs all.1)
  have_programs [] [] (r ∷ rs) all = absurd all
  have_programs [] (u ∷ units) rs all = absurd all
  have_programs (part ∷ parts) [] rs all = absurd all
  have_programs (part ∷ parts) (u ∷ units) [] all = absurd all

  -- which does what that of its unit does
  pub are_like : (parts : List Part) (units : List Unit') (rs : List Runs) → AreRunsFor width parts units rs →
      AreLike (map (group_in width) units) (programs_of rs)
  are_like [] [] [] all = tt
  are_like (part ∷ parts) (u ∷ units) (r ∷ rs) all = (
    subst (λ (p : Plain). IsLike (group_in width u) p) (sym all.0.program) all.0.group.like,
    are_like parts units rs all.1,
  )
  are_like [] [] (r ∷ rs) all = absurd all
  are_like [] (u ∷ units) rs all = absurd all
  are_like (part ∷ parts) [] rs all = absurd all
  are_like (part ∷ parts) (u ∷ units) [] all = absurd all

  -- the condition that stands on the launches
  pub same_refusal : (buffers : List BufferText) (parts : List Part) (units : List Unit') (rs : List Runs) →
      AreRunsFor width parts units rs → needs_refusal buffers parts rs ≡ first_refusal buffers parts units
  same_refusal buffers [] [] [] all = refl
  same_refusal buffers (part ∷ parts) (u ∷ units) (r ∷ rs) all =
      ap₂ or_later (ap (λ n. launch_refusal n buffers part) all.0.needs) (same_refusal buffers parts units rs all.1)
  same_refusal buffers [] [] (r ∷ rs) all = absurd all
  same_refusal buffers [] (u ∷ units) rs all = absurd all
  same_refusal buffers (part ∷ parts) [] rs all = absurd all
  same_refusal buffers (part ∷ parts) (u ∷ units) [] all = absurd all

-- what is bound and run of a compiled kernel
abbrev pub kernel_runs : Compiled → Runs
kernel_runs c = record { needs = needs_in (unit_of c.program); program = plain_of c.group }

pub compiled_runs : (width : ℕ) (cs : List Compiled) (parts : List Part) → All (IsCompilation width) cs →
    All (λ c. IsValid (program_of (unit_of c.program))) cs →
    map (λ c. c.group.kernel) cs ≡ map (λ p. p.kernel) parts →
    AreRunsFor width parts (map (λ c. unit_of c.program) cs) (map kernel_runs cs)
compiled_runs width [] [] passes valid named = tt
compiled_runs width (c ∷ cs) (part ∷ parts) passes valid named =
    let rest : map (λ (c : Compiled). c.group.kernel) cs ≡ map (λ (p : Part). p.kernel) parts = cc named in
    let passed : IsCompilation width c = passes 0 c (omega arith) in
    let fine : IsValid (program_of (unit_of c.program)) = valid 0 c (omega arith) in (
      record {
        made = made_of width c passed fine;
        group = compiled_to width c passed fine;
        program = sym (compiled_group width c passed fine);
        needs = refl;
      },
      compiled_runs width cs parts (λ k d lt. passes (suc k) d (omega arith)) (λ k d lt. valid (suc k) d (omega arith))
          rest,
    )
compiled_runs width [] (part ∷ parts) passes valid named = absurd (let never : ⊥ = cc named in never)
compiled_runs width (c ∷ cs) [] passes valid named = absurd (let never : ⊥ = cc named in never)

promise : (width turns : ℕ) (buffers : List BufferText) (u : Unit') (r : Runs) (part : Part) → IsRunFor width u r →
    LaunchFits r.program.params (sum r.program.locals) (launch_in turns buffers part) →
    Promise (program_of u) (group_in width u) (launch_in turns buffers part)
promise width turns buffers u r part is fits =
    let launch : Launch = launch_in turns buffers part in
    let mine : LaunchFits is.group.group.params (sum is.group.group.locals) launch =
    subst (λ (p : Plain). LaunchFits p.params (sum p.locals) launch) is.program fits in
    record {
      sites = places_are width u is.made.lowered;
      ends = ends_like (program_of u) (group_in width u) is.group.group launch is.group.like is.group.correct.outcomes
          (is.group.correct.fits launch mine) (has_sizes turns buffers part fits.dimensions);
      keeps = keeps_lengths (group_in width u) launch;
    }

promises : (width turns : ℕ) (buffers : List BufferText) (parts : List Part) (units : List Unit') (rs : List Runs) →
    AreRunsFor width parts units rs → HaveRoom (programs_of rs) (map (launch_in turns buffers) parts) →
    AllPromise (map program_of units) (map (group_in width) units) (map (launch_in turns buffers) parts)
promises width turns buffers [] [] [] all fit = tt
promises width turns buffers (part ∷ parts) (u ∷ units) (r ∷ rs) all fit =
    (promise width turns buffers u r part all.0 fit.0, promises width turns buffers parts units rs all.1 fit.1)
promises width turns buffers [] [] (r ∷ rs) all fit = absurd all
promises width turns buffers [] (u ∷ units) rs all fit = absurd all
promises width turns buffers (part ∷ parts) [] rs all fit = absurd all
promises width turns buffers (part ∷ parts) (u ∷ units) [] all fit = absurd all

-- ---- launches one after the other

-- each launch is over buffers of these lengths
abbrev AllOver : List ℕ → List Launch → Type 0
AllOver sizes [] = Unit {0}
AllOver sizes (launch ∷ launches) = (launch.lengths ≡ sizes) × AllOver sizes launches

all_over : (turns : ℕ) (buffers : List BufferText) (parts : List Part) →
    AllOver (lengths_of buffers) (map (launch_in turns buffers) parts)
all_over turns buffers [] = tt
all_over turns buffers (part ∷ parts) = (refl, all_over turns buffers parts)

-- a launch that is done may be done
one_done : (g : Program) (p : Plain) (launch : Launch) (before mid : List (List ℕ)) → Promise g p launch →
    FitBuffers launch before → LaunchRan p launch before mid → EndsDone g launch before mid
one_done g p launch before mid known fit ran =
    subst (λ (left : List (List ℕ)). EndsDone g launch before left) ran.leaves
    (subst (λ (e : RunEnd). IsOutcome g launch before e (launch_end p launch before).buffers) ran.done
    (known.ends before fit))

-- and leaves buffers of the same lengths
still_fit : (g : Program) (p : Plain) (launch : Launch) (sizes : List ℕ) (before mid : List (List ℕ)) →
    Promise g p launch → map (λ (b : List ℕ). length b) before ≡ sizes → LaunchRan p launch before mid →
    map (λ (b : List ℕ). length b) mid ≡ sizes
still_fit g p launch sizes before mid known fit ran =
    ap (λ (bs : List (List ℕ)). map (λ (b : List ℕ). length b) bs) (sym ran.leaves) ∙ (known.keeps before ∙ fit)

all_done : (sizes : List ℕ) (gs : List Program) (ps : List Plain) (launches : List Launch)
    (before after : List (List ℕ)) → AllPromise gs ps launches → AllOver sizes launches →
    map (λ (b : List ℕ). length b) before ≡ sizes → LaunchesRan ps launches before after →
    RanInOutcomes ps gs launches before after
all_done sizes [] [] [] before after known over fit ran = ran
all_done sizes (g ∷ gs) (p ∷ ps) (launch ∷ launches) before after known over fit ran = (
  ran.0,
  ran.1,
  one_done g p launch before ran.0 known.0 (fit ∙ sym over.0) ran.1,
  all_done sizes gs ps launches ran.0 after known.1 over.1 (still_fit g p launch sizes before ran.0 known.0 fit ran.1)
      ran.2,
)
all_done sizes [] [] (launch ∷ launches) before after known over fit ran = absurd known
all_done sizes [] (p ∷ ps) launches before after known over fit ran = absurd known
all_done sizes (g ∷ gs) [] launches before after known over fit ran = absurd known
all_done sizes (g ∷ gs) (p ∷ ps) [] before after known over fit ran = absurd known

-- an end behind others may be that of the launch
module _ (Ends : Program → Launch → List (List ℕ) → Type 0) (end : RunEnd) (IsPlaced : Option Plain → Type 0)
    (one : (g : Program) (p : Plain) (launch : Launch) (buffers left : List (List ℕ)) → p.sites ≡ g.sites →
    IsPlaced (Some p) → IsOutcome g launch buffers end left → Ends g launch buffers) where
  end_behind : (sizes : List ℕ) (gs : List Program) (ps : List Plain) (launches : List Launch)
      (before : List (List ℕ)) (behind : ℕ) → AllPromise gs ps launches → AllOver sizes launches →
      map (λ (b : List ℕ). length b) before ≡ sizes
      → EndsBehind ps launches before behind end → IsPlaced (slice_get ps behind) →
      EndsInOutcome Ends end ps gs launches before behind
  end_behind sizes [] [] [] before behind known over fit ends placed = absurd ends
  end_behind sizes (g ∷ gs) (p ∷ ps) (launch ∷ launches) before zero known over fit ends placed = (
    ends,
    one g p launch before (launch_end p launch before).buffers known.0.sites placed
        (subst (λ (e : RunEnd). IsOutcome g launch before e (launch_end p launch before).buffers) ends
        (known.0.ends before (fit ∙ sym over.0))),
  )
  end_behind sizes (g ∷ gs) (p ∷ ps) (launch ∷ launches) before (suc behind) known over fit ends placed = (
    ends.0,
    ends.1,
    one_done g p launch before ends.0 known.0 (fit ∙ sym over.0) ends.1,
    end_behind sizes gs ps launches ends.0 behind known.1 over.1 (still_fit g p launch sizes before ends.0 known.0 fit
        ends.1) ends.2 placed,
  )
  end_behind sizes [] [] (launch ∷ launches) before behind known over fit ends placed = absurd known
  end_behind sizes [] (p ∷ ps) launches before behind known over fit ends placed = absurd known
  end_behind sizes (g ∷ gs) [] launches before behind known over fit ends placed = absurd known
  end_behind sizes (g ∷ gs) (p ∷ ps) [] before behind known over fit ends placed = absurd known

-- the place that is printed is that of the site
printed : (sites own : List Place) (site : ℕ) (place said : Place) → own ≡ sites →
    said ≡ slice_index_or own site start_place → slice_get sites site ≡ Some place → place ≡ said
printed sites own site place said same is at =
    sym (get_or_from_slice_get own site place start_place (subst (λ (ps : List Place). slice_get ps site ≡ Some place)
    (sym same) at)) ∙ sym is

-- the place of the site of the launch that ends so
abbrev IsAt : Place → ℕ → Option Plain → Type 0
IsAt said site o = said ≡ site_place o site

range_of : (group item site : ℕ) (said : Place) (g : Program) (p : Plain) (launch : Launch)
    (buffers left : List (List ℕ)) → p.sites ≡ g.sites → IsAt said site (Some p) →
    IsOutcome g launch buffers (run.Range group item site) left → EndsRange g launch buffers group item said
range_of group item site said g p launch buffers left same at outcome =
    subst (λ (place : Place). EndsRange g launch buffers group item place)
    (printed g.sites p.sites site outcome.0 said same at outcome.1) outcome.2

parted_of : (group item site : ℕ) (said : Place) (g : Program) (p : Plain) (launch : Launch)
    (buffers left : List (List ℕ)) → p.sites ≡ g.sites → IsAt said site (Some p) →
    IsOutcome g launch buffers (run.Parted group item site) left → EndsParted g launch buffers group item said
parted_of group item site said g p launch buffers left same at outcome =
    subst (λ (place : Place). EndsParted g launch buffers group item place)
    (printed g.sites p.sites site outcome.0 said same at outcome.1) outcome.2

so_outcome : (several : Bool) (sizes : List ℕ) (gs : List Program) (ps : List Plain) (launches : List Launch)
    (before : List (List ℕ)) (e : RunError) → AllPromise gs ps launches → AllOver sizes launches →
    map (λ (b : List ℕ). length b) before ≡ sizes → EndsSo several ps launches before e →
    StopsAsOutcome ps gs launches before e
so_outcome several sizes gs ps launches before (error.Range number s group item place) known over fit ends =
    let x = ends.1 in
    record {
      behind = x.behind;
      site = x.site;
      ends = end_behind (λ g launch buffers. EndsRange g launch buffers group item place)
          (run.Range group item x.site) (IsAt place x.site) (range_of group item x.site place) sizes gs ps launches
          before x.behind known over fit x.ends x.place_is;
      number_is = x.number_is;
    }
so_outcome several sizes gs ps launches before (error.Parted number s group item place) known over fit ends =
    let x = ends.1 in
    record {
      behind = x.behind;
      site = x.site;
      ends = end_behind (λ g launch buffers. EndsParted g launch buffers group item place)
          (run.Parted group item x.site) (IsAt place x.site) (parted_of group item x.site place) sizes gs ps launches
          before x.behind known over fit x.ends x.place_is;
      number_is = x.number_is;
    }
so_outcome several sizes gs ps launches before (error.Turns number s) known over fit ends =
    let x = ends.1 in
    record {
      behind = x.behind;
      site = 0;
      ends = end_behind EndsTurns run.Turns (λ o. Unit {0}) (λ g p launch buffers left same placed outcome. outcome)
          sizes gs ps launches before x.behind known over fit x.ends tt;
      number_is = x.number_is;
    }
so_outcome several sizes gs ps launches before _ known over fit ends = absurd ends

-- ---- the launches of a file

module _ (text : Text) (units : List Unit') (rs : List Runs) (all : AreRunsFor text.lanes text.list units rs)
    (fit : HaveRoom (programs_of rs) (launches_in text)) (before : List (List ℕ))
    (sizes : map (λ (b : List ℕ). length b) before ≡ lengths_of text.buffers) where
  known : AllPromise (models_in units) (programs_in text units) (launches_in text)
  known = promises text.lanes text.turns text.buffers text.list units rs all fit

  pub ran_outcome : (after : List (List ℕ)) → LaunchesRan (programs_in text units) (launches_in text) before after →
      RanInOutcomes (programs_in text units) (models_in units) (launches_in text) before after
  ran_outcome after ran =
      all_done (lengths_of text.buffers) _ _ (launches_in text) before after known
      (all_over text.turns text.buffers text.list) sizes ran

  pub stop_outcome : (e : RunError) → EndsSo text.several (programs_in text units) (launches_in text) before e →
      StopsAsOutcome (programs_in text units) (models_in units) (launches_in text) before e
  stop_outcome e ends =
      so_outcome text.several (lengths_of text.buffers) _ _ (launches_in text) before e known
      (all_over text.turns text.buffers text.list) sizes ends
