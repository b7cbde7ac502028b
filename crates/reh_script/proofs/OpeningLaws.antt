-- What is opened of a picture, and what its first bytes tell of it.
use Rattle.std.proofs.Common.{◌≡◌, ℕ, ◌<◌, Bool, true, false, inl, inr, List, [], ◌++◌, length, refl, sym, ap}
use Rattle.std.proofs.Common.{◌∙◌}
use Rattle.std.proofs.Common.{subst, arith, append-nil, Ok, Err, Result, Option, None, Some, length-append}
use Rattle.std.specs.Prelude.{◌≢◌, IsErrAnd}
use Rattle.std.proofs.lemmas.Bool.{cases_lt}
use Rattle.reh_types.specs.declared.limits.TheConstants.{MAX_PICTURE_BYTES}
use Rattle.reh_model.specs.Cluster.{Cluster}
use Rattle.reh_fields.specs.declared.faults.PictureFault.{PictureFault}
use Rattle.reh_fields.specs.declared.faults.PictureFault.TheVariants as picture_fault
use Rattle.reh_picture.specs.Pictures.{picture_of}
use Rattle.reh_picture.proofs.PicturesLemmas.{picture_of-long}
use Rattle.reh_script.specs.Faults.{pipe_fault_of}
use Rattle.reh_script.specs.Openings.{Opens, IsOpened, OpensText}
use Rattle.reh_lines.specs.Readings.{ReadsEnough, Reads}
use Rattle.reh_play.specs.declared.faults.PlayFault.TheVariants.{ReadFault, NoMemory}
use Rattle.reh_script.specs.declared.faults.PipeFault.{PipeFault}
use Rattle.reh_script.specs.declared.faults.PipeFault.TheVariants.{Picture, Play}
use Rattle.reh_script.specs.declared.openings.Opened.{Opened}

-- where there is no memory
lacking : (read : Result Cluster PictureFault) → Opens read (Err (Play NoMemory))
lacking (Ok state) = refl
lacking (Err fault) = inr refl

-- handed on
pub opens_lacking : (read : Result Cluster PictureFault) (result : Result Opened PipeFault)
    → IsErrAnd result (λ e. e ≡ Play NoMemory) → Opens read result
opens_lacking read (Ok o) is = absurd is
opens_lacking read (Err e) is = subst (λ (f : PipeFault). Opens read (Err f)) (sym is) (lacking read)

refused_or_lacks : (read : Result Cluster PictureFault) (fault : PictureFault)
    → (fault ≢ picture_fault.NoMemory → read ≡ Err fault) → Opens read (Err (pipe_fault_of fault))
refused_or_lacks read picture_fault.NoMemory is = lacking read
refused_or_lacks read fault is =
    subst (λ (r : Result Cluster PictureFault). Opens r (Err (Picture fault))) (sym (is (λ same. cc))) (inl refl)

-- where the picture is refused
pub opens_refused : (read : Result Cluster PictureFault) (fault : PictureFault) (result : Result Opened PipeFault)
    → (fault ≢ picture_fault.NoMemory → read ≡ Err fault) → IsErrAnd result (λ e. e ≡ pipe_fault_of fault)
    → Opens read result
opens_refused read fault (Ok o) refuses is = absurd is
opens_refused read fault (Err e) refuses is =
    subst (λ (f : PipeFault). Opens read (Err f)) (sym is) (refused_or_lacks read fault refuses)

-- where it shows a state
pub opens_state : (read : Result Cluster PictureFault) (state : Cluster) (o : Opened) → read ≡ Ok state
    → IsOpened state o → Opens read (Ok o)
opens_state read state o is opened =
    subst (λ (r : Result Cluster PictureFault). Opens r (Ok o)) (sym is) opened

-- a picture that was read far enough is judged as all of it
picture-enough : (enough : ℕ) (picture all : List ℕ) → ReadsEnough enough picture all → MAX_PICTURE_BYTES < enough
    → picture_of picture ≡ picture_of all
picture-enough enough picture all (rest, whole, end) more =
    elim (cases_lt (length picture) enough) [
      | inl short ↦
          ap picture_of (sym (whole ∙ ap (λ (r : List ℕ). picture ++ r) (end short) ∙ append-nil picture))
      | inr long ↦
          let longer : MAX_PICTURE_BYTES < length (picture ++ rest) = omega (arith, length-append picture rest) in
          picture_of-long picture (omega arith) ∙ sym (picture_of-long (picture ++ rest) longer)
          ∙ ap picture_of (sym whole)
    ]

-- where a read failed after it
pub opens_failed : (told failed : Bool) (enough : ℕ) (bytes : List ℕ) (left_old left_new : Option (List ℕ))
    → told ≡ failed → failed ≡ true → Reads enough failed bytes left_old left_new
    → OpensText told left_old left_new (Err (Play ReadFault))
opens_failed told failed enough bytes left_old left_new same is reads =
    subst (λ (f : Bool). OpensText f left_old left_new (Err (Play ReadFault))) (sym (same ∙ is))
    (record {
      picture = bytes;
      given = subst (λ (f : Bool). Reads enough f bytes left_old left_new) is reads;
      opens = refl;
    })

judged : (enough : ℕ) (bytes : List ℕ) (left_old left_new : Option (List ℕ)) (result : Result Opened PipeFault)
    → Reads enough false bytes left_old left_new → MAX_PICTURE_BYTES < enough → Opens (picture_of bytes) result
    → OpensText false left_old left_new result
judged enough bytes None left_new result reads more opens = record { picture = bytes; given = tt; opens = opens }
judged enough bytes (Some all) left_new result reads more opens = record {
  picture = all;
  given = refl;
  opens =
      subst (λ (r : Result Cluster PictureFault). Opens r result) (picture-enough enough bytes all reads more) opens;
}

-- what is opened of what was read is opened of the picture that the reader gives
pub opens_judged : (told failed : Bool) (enough : ℕ) (bytes : List ℕ) (left_old left_new : Option (List ℕ))
    (result : Result Opened PipeFault) → told ≡ failed → failed ≡ false
    → Reads enough failed bytes left_old left_new → MAX_PICTURE_BYTES < enough → Opens (picture_of bytes) result
    → OpensText told left_old left_new result
opens_judged told failed enough bytes left_old left_new result same is reads more opens =
    subst (λ (f : Bool). OpensText f left_old left_new result) (sym (same ∙ is))
    (judged enough bytes left_old left_new result
    (subst (λ (f : Bool). Reads enough f bytes left_old left_new) is reads) more opens)

-- where there is no memory for the picture's bytes
unread : (left_old left_new : Option (List ℕ)) (result : Result Opened PipeFault)
    → IsErrAnd result (λ e. e ≡ Play NoMemory) → OpensText false left_old left_new result
unread None left_new result is = record { picture = []; given = tt; opens = opens_lacking _ result is }
unread (Some all) left_new result is = record { picture = all; given = refl; opens = opens_lacking _ result is }

pub opens_none : (failed : Bool) (left_old left_new : Option (List ℕ)) (result : Result Opened PipeFault)
    → failed ≡ false → IsErrAnd result (λ e. e ≡ Play NoMemory) → OpensText failed left_old left_new result
opens_none failed left_old left_new result fine is =
    subst (λ (f : Bool). OpensText f left_old left_new result) (sym fine) (unread left_old left_new result is)
