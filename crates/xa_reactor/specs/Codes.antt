-- How the traffic is stored that `NotedNetwork` notes: a code for it.
use Rattle.std.specs.Prelude.{◌≡◌, ◌⊎◌, ℕ, List}
use mathlib.Core.Logic.{inl, inr}
use mathlib.Core.Path.{refl}
use Rattle.std.specs.Coded.{Coded, code_by, coded_list, coded_ℕ, coded×, coded⊎}
use Rattle.std.specs.contracts.io.ErrorKind as kind
use Rattle.std.specs.declared.io.ErrorKind.{ErrorKind}
use Rattle.xa_reactor.specs.contracts.progress.Reason as reason
use Rattle.xa_reactor.specs.declared.progress.Reason.{Reason}
use Rattle.xa_reactor.specs.Traffic.{Traffic, failed, finished, received, seated, sent, vacated}

-- bytes read, bytes taken; a failure, a connection closed; one seated, a peer told: each with its place
abbrev Parts : Type 0
Parts = ((ℕ × List ℕ) ⊎ (ℕ × List ℕ)) ⊎ (((ℕ × ErrorKind) ⊎ (ℕ × Reason)) ⊎ (ℕ ⊎ ℕ))

abbrev parts_of : Traffic → Parts
parts_of (received place bytes) = inl (inl (place, bytes))
parts_of (sent place bytes) = inl (inr (place, bytes))
parts_of (failed place why) = inr (inl (inl (place, why)))
parts_of (vacated place why) = inr (inl (inr (place, why)))
parts_of (seated place) = inr (inr (inl place))
parts_of (finished place) = inr (inr (inr place))

abbrev of_parts : Parts → Traffic
of_parts (inl (inl parts)) = received parts.0 parts.1
of_parts (inl (inr parts)) = sent parts.0 parts.1
of_parts (inr (inl (inl parts))) = failed parts.0 parts.1
of_parts (inr (inl (inr parts))) = vacated parts.0 parts.1
of_parts (inr (inr (inl place))) = seated place
of_parts (inr (inr (inr place))) = finished place

pub traffic_again : (traffic : Traffic) → of_parts (parts_of traffic) ≡ traffic
traffic_again (received place bytes) = refl
traffic_again (sent place bytes) = refl
traffic_again (failed place why) = refl
traffic_again (vacated place why) = refl
traffic_again (seated place) = refl
traffic_again (finished place) = refl

abbrev bytes_coded : Coded (ℕ × List ℕ)
bytes_coded = coded× coded_ℕ (coded_list coded_ℕ)

abbrev pub traffic_coded : Coded Traffic
traffic_coded = code_by Parts (coded⊎ (coded⊎ bytes_coded bytes_coded)
    (coded⊎ (coded⊎ (coded× coded_ℕ kind.the_row.coded) (coded× coded_ℕ reason.the_row.coded))
    (coded⊎ coded_ℕ coded_ℕ))) parts_of of_parts traffic_again
