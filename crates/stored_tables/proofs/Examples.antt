-- Small examples of stored rows and changes, worked out by evaluation.
use Rattle.std.proofs.Common.{◌≡◌, [], ◌∷◌, None, true, refl, codes}
use Rattle.ipam_data.specs.declared.kinds.Kind.TheVariants.{Vrfs}
use Rattle.ipam_data.specs.declared.replies.View.TheVariants.{Vrf as VrfView}
use Rattle.stored_tables.specs.Stored.{stored_row, vrf_texts}

stored : stored_row (VrfView (record { id = 7; name = codes "red"; rd = None; enforce_unique = true; description = [] }))
    ≡ record { kind = Vrfs; id = 7; fields = codes "red" ∷ [] ∷ codes "true" ∷ [] ∷ [] }
unfolding vrf_texts
stored = refl
