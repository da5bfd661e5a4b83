mod StepLemmas
mod TimesLemmas
mod TypingLemmas
