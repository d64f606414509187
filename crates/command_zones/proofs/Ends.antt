-- What the output has where the lines of a zone were printed, or were not.
use Rattle.std.proofs.Common.{◌≡◌, ℕ, List, Result, Ok, Err, refl, sym, ap, subst, ◌∙◌}
use Rattle.std.specs.List.{All}
use Rattle.std.specs.Result.{IsErrAnd}
use Rattle.ipam_data.specs.declared.address.IpAddress.{IpAddress}
use Rattle.ipam_data.specs.State.{State}
use Rattle.command_streams.specs.Streams.{Told, Gains, GainsFront, Failed}
use Rattle.command_zones.specs.declared.zone.Place.{Place}
use Rattle.command_zones.specs.declared.zone.ZoneStop.{ZoneStop}
use Rattle.command_zones.specs.declared.zone.ZoneStop.TheVariants.{Refused, Unwritten, Memory}
use Rattle.command_zones.specs.Zone.{lines_at, IsPlaceIn, IsZone, IsZoneStop, IsZoneEnd}

-- what holds of an error holds of it behind a `?`
pub passed_on : {T E : Type 0} (P : Result T E → Type 0) (r : Result T E) (e : E) → IsErrAnd r (λ y. y ≡ e) → P (Err e) → P r
passed_on P (Ok x) e h p = absurd h
passed_on {T} {E} P (Err y) e h p = subst (λ (z : E). P (Err z)) (sym h) p

-- nothing was written
pub stopped : (s : State) (id : ℕ) (stop : ZoneStop) (told : Told) → IsZoneStop s id stop → IsZoneEnd s id told told (Err stop)
stopped s id (Refused refusal) told h = (h, refl)
stopped s id Unwritten told h = absurd h
stopped s id Memory told h = refl

-- the rows of the book and the places as they were handed on
module _ (s : State) (id : ℕ) (rows : List IpAddress) (places given : List Place) (same : rows ≡ s.addresses.rows) (handed : given ≡ places)
    (zone : IsZone s id places) where
  pub handed_on : All (IsPlaceIn rows) given
  handed_on = subst (λ (rs : List IpAddress). All (IsPlaceIn rs) given) (sym same)
      (subst (λ (ss : List Place). All (IsPlaceIn s.addresses.rows) ss) (sym handed) zone.there)

  lines_same : lines_at rows given ≡ lines_at s.addresses.rows places
  lines_same = ap (λ (rs : List IpAddress). lines_at rs given) same ∙ ap (λ (ss : List Place). lines_at s.addresses.rows ss) handed

  -- all lines were written
  pub printed : (old new : Told) → Gains old new (lines_at rows given) → IsZoneEnd s id old new (Ok tt)
  printed old new gains = (lines_at s.addresses.rows places, zone.text, subst (λ (text : List ℕ). Gains old new text) lines_same gains)

  -- a front of them was
  pub unprinted : (old new : Told) → Failed old new → GainsFront old new (lines_at rows given) → IsZoneEnd s id old new (Err Unwritten)
  unprinted old new failed front = (lines_at s.addresses.rows places, zone.text, failed, subst (λ (text : List ℕ). GainsFront old new text) lines_same front)
