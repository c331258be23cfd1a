-- Where regions end, live cells have homes of their own.
use Rattle.std.proofs.Common.{◌≡◌, ◌≢◌, ℕ, Some, slice_get}
use Rattle.std.specs.Prelude.{true}
use Rattle.kir.specs.Tree.{Kernel}
use Rattle.kir.specs.Places.{Tasks}
use Rattle.kir.specs.Live.{live_behind}
use Rattle.ctx_plan.specs.declared.plan.Home.{Home}
use Rattle.ctx_plan.specs.declared.plan.Home.TheVariants as home
use Rattle.ctx_plan.specs.Planned.{Planned}
use Rattle.ctx_plan.specs.Asks.{Suits}
use Rattle.regions.specs.Spans.{IsEnd}
use Rattle.mask_lower.proofs.Ends.{ends_cut}

module _ (kernel : Kernel) (plan : Planned) (suits : Suits kernel plan) where
  -- no cell that is live there is kept in registers alone
  pub ends_kept : (e : Tasks) → IsEnd kernel e → (c : ℕ) → live_behind c e ≡ true →
      slice_get plan.homes c ≡ Some home.Register → ⊥
  ends_kept e is_end c live h = let cut =
      ends_cut kernel e is_end c live in suits.kept cut.at c cut.cut (cut.live c live) h

  -- and no two have one home
  pub ends_apart : (e : Tasks) → IsEnd kernel e → (c d : ℕ) (h : Home) → live_behind c e ≡ true →
      live_behind d e ≡ true → c ≢ d → slice_get plan.homes c ≡ Some h → slice_get plan.homes d ≡ Some h → ⊥
  ends_apart e is_end c d h live live' ne at_c at_d = let cut = ends_cut kernel e is_end c live in
      suits.apart cut.at c d h cut.cut (cut.live c live) (cut.live d live') ne at_c at_d
