-- The forms in which fields are printed, as the definitions see them.
use Rattle.std.specs.Prelude.{ℕ}
use Rattle.spec_keys.specs.Fields as forms
use Rattle.field_text.specs.declared.printing.PrintedForm.{PrintedForm}
use Rattle.field_text.specs.declared.printing.PrintedForm.TheVariants.{Decimal, Hexadecimal, FourDigits, Mac, Ipv4, Ipv6, Fragment}

abbrev pub form_view : PrintedForm → forms.Form
form_view Decimal = forms.Decimal
form_view Hexadecimal = forms.Hexadecimal
form_view FourDigits = forms.FourDigits
form_view Mac = forms.Mac
form_view Ipv4 = forms.Ipv4
form_view Ipv6 = forms.Ipv6
form_view Fragment = forms.Fragment

-- how wide the numbers in a form may be
abbrev pub width_of_form : forms.Form → ℕ
width_of_form forms.FourDigits = 16
width_of_form forms.Mac = 48
width_of_form forms.Ipv4 = 32
width_of_form _ = 128
